-- What is located among entries is one of them.
-- Assumes nothing.
use mathlib.Core.Path.{◌≡◌, refl, sym, ap, ◌∙◌}
use mathlib.Core.Bool.{Bool, true, false}
use mathlib.Core.List.{List, [], ◌∷◌, ◌++◌, append_assoc}
use Prim.Native.Nat.{ℕ, zero, suc}
use Rattle.wire.specs.Tests.{given}
use Rattle.wire.specs.Shape.{Kind, Shape, node, Shapes}
use Rattle.wire.specs.Shape as shapes
use Rattle.wire.specs.Values.{Entry, Tag, Told, kept, lacks, short, tell}
use Rattle.wire.specs.Reading.{Outcome, reached, refused}
use Rattle.laws.specs.Told.{entries, over}
use Rattle.laws.proofs.Told.{tells_all}
use Rattle.desk.specs.FindAnswer.{NoItem}
use Rattle.desk.specs.Path.{is_there, Located, at, absent, unmade, locate_on, locate_item, locate, locate_at, find_answer, find_in}
use Rattle.along.specs.Laws.{Among, FromRead, made, same, FoundMade}
use Rattle.along.specs.Laws as laws
use Rattle.along.proofs.Found.{lacking}

-- entries that are told off stand in front
record Behind (es rest : List Entry) : Type 0 where
  front : List Entry
  all : es ≡ front ++ rest

tell-tail : (t : Shape) (es : List Entry) (ts : List Tag) (rest : List Entry) → tell t es ≡ kept ts rest → Behind es rest
tell-tail t es ts rest e = record { front = entries ts; all = sym (tells_all t es) ∙ rw e (unfold over in refl) }

-- what is located is there
data Held (es : List Entry) : Located → Type 0 where
  held : {e : Entry} → Among e es → Held es (at e)
  gone : {e : Entry} → e.first ≡ 0 → Among e es → Held es (absent e.place)
  cut : Held es unmade

among-behind : {es rest : List Entry} {e : Entry} → Behind es rest → Among e rest → Among e es
among-behind {e} b a =
    record { front = b.front ++ a.front; rest = a.rest; list = b.all ∙ ap (λ l. b.front ++ l) a.list ∙ sym (append_assoc b.front a.front (e ∷ a.rest)) }

held-behind : {es rest : List Entry} {l : Located} → Behind es rest → Held rest l → Held es l
held-behind b (held a) = held (among-behind b a)
held-behind b (gone z a) = gone z (among-behind b a)
held-behind b cut = cut

hold-item : (k : Kind) (path : List ℕ) (es : List Entry) (next : ℕ → List ℕ → List Entry → Located)
    → ((i : ℕ) (rest : List ℕ) → path ≡ i ∷ rest → (fs : List Entry) → Held fs (next i rest fs)) → Held es (locate_item k path es next)
unfolding locate_item
hold-item k [] [] next h = cut
hold-item k (i ∷ path) [] next h = cut
hold-item k [] (e ∷ es) next h = held (record { front = []; rest = es; list = refl })
hold-item k (i ∷ path) (e ∷ es) next h = go (is_there k e.first) refl
  where
    go : (b : Bool) → is_there k e.first ≡ b → Held (e ∷ es) (given b (λ _. next i path es) (absent e.place))
    go true t = unfold given in held-behind (record { front = e ∷ []; all = refl }) (h i path refl es)
    go false t = unfold given in gone (lacking k e.first t).word (record { front = []; rest = es; list = refl })

hold-field : (t : Shape) (es : List Entry) (g : List Entry → Located) → ((fs : List Entry) → Held fs (g fs)) → Held es (locate_on (tell t es) g)
hold-field t es g h = go (tell t es) refl
  where
    go : (x : Told) → tell t es ≡ x → Held es (locate_on x g)
    go (kept ts rest) e = unfold locate_on in held-behind (tell-tail t es ts rest e) (h rest)
    go (lacks ts f rest) e = unfold locate_on in cut
    go (short ts) e = unfold locate_on in cut

mutual
  unfolding locate locate_at

  hold-path : (t : Shape) (path : List ℕ) (es : List Entry) → Held es (locate t path es)
  hold-path (node k ts) path es = hold-item k path es (λ i rest fs. locate_at ts i rest fs) (λ i rest e fs. hold_row ts i rest fs)

  hold_row : (ts : Shapes) (i : ℕ) (path : List ℕ) (es : List Entry) → Held es (locate_at ts i path es)
  hold_row shapes.none i path es = cut
  hold_row (shapes.more t ts) zero path es = hold-path t path es
  hold_row (shapes.more t ts) (suc i) path es = hold-field t es (λ rest. locate_at ts i path rest) (λ fs. hold_row ts i path fs)

pub found-made : FoundMade
unfolding find_in
found-made t path r = go (hold-path t path r.made) r.ends
  where
    go : {l : Located} → Held r.made l → (o : Outcome) → (find_answer l o ≡ NoItem → ⊥) → FromRead r.made o (find_answer l o)
    go (held {e} m) o h = unfold find_answer in made e m
    go (gone {e} z m) o h = unfold find_answer in laws.lacking e z m
    go cut (reached x) h = unfold find_answer in absurd (h refl)
    go cut (refused e p) h = unfold find_answer in same
