-- The way down: what was passed stands in front, and the pair that is reached decides the rest.
-- Assumes nothing.
use mathlib.Core.Path.{◌≡◌, refl, sym, ap, ◌∙◌}
use mathlib.Core.List.{List, [], ◌∷◌, ◌++◌, append-nil, append_assoc}
use Prim.Native.Nat.{ℕ, suc, ◌+◌, ◌<◌}
use native.Mathlib.Omega.{arith}
use lib.ListN.{length, set, length-append}
use lib.Seq.{sets}
use Rattle.wire.specs.declared.Layout.{Layout}
use Rattle.laws.specs.Tables.{node_shape, GoodTable}
use Rattle.laws.proofs.Parts.{sets-append}
use Rattle.append.specs.Area.{Sound}
use Rattle.append.specs.Compare.{Asked}
use Rattle.append.proofs.Matching.{as_long}
use Rattle.parting.specs.Next.{Next}
use Rattle.parting.specs.Next.{Here, Down}
use Rattle.parting.specs.Pairs.{parting_at, Leads, Follows, Stored}
use Rattle.parting.proofs.Steps.{few-positions}

-- where the way stands: the positions passed are in front of those that follow from the pair, and are stored; with those there is room for all
pub record Gone (s : List ℕ) (l : Layout) (t : List ℕ) (m : Layout) (path now : List ℕ) (i j depth : ℕ) : Type 0 where
  pub front : List ℕ
  pub deep : depth ≡ length front
  pub whole : parting_at s l l.root t m m.root ≡ front ++ parting_at s l i t m j
  pub stored : now ≡ sets path 0 front
  pub room : depth + length (parting_at s l i t m j) < 256

pub gone-start : {s t : List ℕ} {l m : Layout} (path : List ℕ) → GoodTable s l → Gone s l t m path path l.root m.root 0
gone-start {t} {m} path old = record {
  front = [];
  deep = refl;
  whole = refl;
  stored = refl;
  room = omega (arith, few-positions old (node_shape t m m.root));
}

one_more : (p : List ℕ) (c : ℕ) → length (p ++ c ∷ []) ≡ suc (length p)
one_more p c = length-append p (c ∷ []) ∙ omega arith

-- one more position is stored behind those in front
next_word : (p path : List ℕ) (c n : ℕ) → n ≡ length p → set (sets path 0 p) n c ≡ sets path 0 (p ++ c ∷ [])
next_word p path c n e = let next : n ≡ 0 + length p = omega arith in rw next (sets-append path 0 p (c ∷ []))

-- after what the pair's search told
module _ {s t : List ℕ} {l m : Layout} {path now : List ℕ} {i j depth : ℕ} {r : Next} (here : Gone s l t m path now i j depth) (told : Follows s l i t m j r) where
  pub next-lower : {c p q : ℕ} → r ≡ Down c p q → p < i
  next-lower e = let leads : Leads s l i t m j _ _ _ = rw e at told in leads.lower

  -- the children are nodes too, with the area b that is left
  pub asked-next : {a b : List ℕ} → Asked s l i t m j a → length b ≡ length a → Sound s l t m b → {c p q : ℕ} → r ≡ Down c p q → Asked s l p t m q b
  asked-next asked same sound e = let leads : Leads s l i t m j _ _ _ = rw e at told in record {
    begun = as_long asked.begun same;
    left = omega (arith, asked.left, leads.lower);
    right = omega (arith, asked.right, leads.below);
    sound = sound;
  }

  pub gone-next : {c p q : ℕ} → r ≡ Down c p q → Gone s l t m path (set now depth c) p q (depth + 1)
  gone-next {c} e = let leads : Leads s l i t m j c _ _ = rw e at told in record {
    front = here.front ++ c ∷ [];
    deep = omega (arith, here.deep, one_more here.front c);
    whole = here.whole ∙ ap (λ p. here.front ++ p) leads.on ∙ sym (append_assoc here.front (c ∷ []) _);
    stored = rw here.stored (next_word here.front path c depth here.deep);
    room = omega (arith, here.room, ap length leads.on);
  }

  pub gone-all : r ≡ Here → Stored (parting_at s l l.root t m m.root) path depth now
  gone-all e =
      let ends : parting_at s l i t m j ≡ [] = rw e at told in
      let all : parting_at s l l.root t m m.root ≡ here.front = here.whole ∙ ap (λ p. here.front ++ p) ends ∙ append-nil here.front in
      rw all (record { deep = here.deep; stored = here.stored })
