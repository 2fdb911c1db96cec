-- The bytes of an entry that some value has, by the ranges of the kinds' numbers.
-- Assumes nothing.
use mathlib.Core.Path.{◌≡◌, refl, sym, ap, ◌∙◌}
use mathlib.Core.Bool.{Bool, true}
use mathlib.Core.List.{List, [], ◌∷◌}
use mathlib.Core.Option.{some}
use Prim.Native.Nat.{ℕ, ◌+◌, ◌-◌, ◌%◌, ◌<◌, ◌≤◌}
use native.Mathlib.Omega.{arith}
use native.Mathlib.Nat.{mod-eq_of_lt}
use lib.ListN.{length, take, replicate, length-take, length-drop}
use lib.Dec.{leb}
use lib.Seq.{sets, sets-eq, length-sets, take-append_seam}
use borrow.Author.Tests.{leb-true}
use Rattle.wire.specs.Tests.{pick}
use Rattle.wire.specs.Shape.{size, le, be, signed, unsigned, bool, i8, u8, f32, f64, char, unit, int, fixed, Content, Kind, plain, pooled, option, sequence, map, struct, enum}
use Rattle.wire.specs.Numbers.{shortest, zigzag, zigzagged, little_bytes, in_order}
use Rattle.wire.specs.Text.{is_char, char_bytes}
use Rattle.wire.specs.Table.{kinds, kind_of}
use Rattle.wire.specs.Values.{part}
use Rattle.wire.specs.Writing.{single, with_count, plain_bytes, head_bytes}
use Rattle.laws.proofs.Splits.{by-lt, both_left}
use Rattle.laws.proofs.Own.{when-some, single-some}
use Rattle.laws.proofs.Contents.{length-with_count}
use Rattle.laws.proofs.EachKind.{end, ◌&◌, in-kinds}
use Rattle.laws.proofs.Utf8.{char-text}
use Rattle.utf8.specs.Chars.{Form}
use Rattle.output.specs.Bytes.{Puts}
use Rattle.write_item.specs.Own.{width_at, Fits, Spells, SpellsEntry}
use Rattle.write_item.proofs.Sixths.{sign_low, sign_high, signed-int, unsigned-int, little-sixth, big-sixth}
use Rattle.write_item.proofs.Judging.{numbered}

-- ---- a char's bytes stand in front in their array

module _ (a n : ℕ) (array : List ℕ) (is : is_char a ≡ true) (f : Form a array n) where
  form-len : n ≡ length (char_bytes a)
  unfolding pick
  form-len = rw is at f.size

  form-stored : array ≡ sets (replicate 4 0) 0 (char_bytes a)
  unfolding pick
  form-stored = rw is at f.stored

  pub form-inside : n ≤ length array
  form-inside = omega (arith, form-len, (char-text a is).few_bytes, ap length form-stored ∙ length-sets {A = ℕ} (replicate 4 0) 0 (char_bytes a))

  pub form-front : take n array ≡ char_bytes a
  form-front =
      rw (form-len, form-stored ∙ sets-eq (char_bytes a) (replicate 4 0) 0 (omega (arith, (char-text a is).few_bytes)))
      (take-append_seam (char_bytes a) _)

-- ---- an entry's bytes

of-single : (ok : Bool) (b : ℕ) (t : List ℕ) {s : List ℕ} {u : ℕ} {out : List ℕ} {r : ℕ} {after : List ℕ} → (ok ≡ true → Puts t u out r after)
    → single ok b t ≡ some s → Puts s u out r after
of-single ok b t p e = let q = single-some ok b t e in rw q.2 at (p q.0)

module _ {a u : ℕ} {out : List ℕ} {r : ℕ} {after : List ℕ} where
  -- a byte that is 0 or 1
  flag : (k : Kind) → ((n : ℕ) (pool : List ℕ) (b : ℕ) → head_bytes k n pool a b ≡ single (leb a 1) b (a ∷ [])) → Puts (a % 256 ∷ []) u out r after → Spells k a u out r after
  flag k f p =
      record {
        with = λ pool b.
            record {
              puts = λ n e.
                  of-single (leb a 1) b (a ∷ []) (λ is. rw (mod-eq_of_lt {n = a} {m = 256} (omega (arith, leb-true a 1 is))) at p) (sym (f n pool b) ∙ e);
            };
      }

  -- other bytes
  bytes : (k : Kind) (ok : ℕ → Bool) (t : List ℕ) → ((n : ℕ) (pool : List ℕ) (b : ℕ) → head_bytes k n pool a b ≡ single (ok n) b t) → Puts t u out r after → Spells k a u out r after
  bytes k ok t f p = record { with = λ pool b. record { puts = λ n e. of-single (ok n) b t (λ is. p) (sym (f n pool b) ∙ e) } }

  pub spells-low-byte : (k : ℕ) → k < 2 → Puts (a % 256 ∷ []) u out r after → Spells (kind_of k) a u out r after
  unfolding numbered little_bytes
  spells-low-byte k h p =
      in-kinds (λ x. Spells x a u out r after) 0 2 refl (flag (plain bool) (λ n pool b. refl) p & bytes (plain i8) _ _ (λ n pool b. refl) p & end) k (omega arith) (omega arith)

  pub spells-u8 : (k : ℕ) → k ≡ 5 → Puts (a % 256 ∷ []) u out r after → Spells (kind_of k) a u out r after
  unfolding numbered little_bytes
  spells-u8 k e p = rw e (bytes (plain u8) _ _ (λ n pool b. refl) p)

  pub spells-option : (k : ℕ) → k ≡ 15 → Puts (a % 256 ∷ []) u out r after → Spells (kind_of k) a u out r after
  unfolding numbered
  spells-option k e p = rw e (flag option (λ n pool b. refl) p)

  -- varints
  pub spells-signed : (k : ℕ) → 2 ≤ k → k ≤ 4 → Puts (shortest (zigzag a)) u out r after → Spells (kind_of k) a u out r after
  unfolding head_bytes plain_bytes zigzagged
  spells-signed k l h p = rw (signed-int k l h, sign_low (k - 2) (omega arith)) (bytes (plain (int signed (width_at (k - 2)))) _ _ (λ n pool b. refl) p)

  pub spells-unsigned : (k : ℕ) → 6 ≤ k → k ≤ 8 → Puts (shortest a) u out r after → Spells (kind_of k) a u out r after
  unfolding head_bytes plain_bytes zigzagged
  spells-unsigned k l h p = rw (unsigned-int k l h, sign_high (k - 3) (omega arith)) (bytes (plain (int unsigned (width_at (k - 3)))) _ _ (λ n pool b. refl) p)

  -- a count's, and a variant's
  pub spells-varint : (k : ℕ) → 16 ≤ k → k ≤ 19 → (k ≡ 18 → ⊥) → Puts (shortest a) u out r after → Spells (kind_of k) a u out r after
  unfolding numbered
  spells-varint k l h f p =
      by-lt k 18
      (λ lo. in-kinds (λ x. Spells x a u out r after) 16 2 refl (bytes sequence _ _ (λ n pool b. refl) p & bytes map _ _ (λ n pool b. refl) p & end) k l (omega arith))
      (λ hi. in-kinds (λ x. Spells x a u out r after) 19 1 refl (bytes enum _ _ (λ n pool b. refl) p & end) k (omega arith) (omega arith))

  -- fixed size
  pub spells-f32 : (k : ℕ) → k ≡ 9 → Puts (in_order le (little_bytes (size (width_at 4)) a)) u out r after → Spells (kind_of k) a u out r after
  unfolding numbered width_at pick size in_order
  spells-f32 k e p = rw e (bytes (plain f32) _ _ (λ n pool b. refl) p)

  pub spells-f64 : (k : ℕ) → k ≡ 10 → Puts (in_order le (little_bytes (size (width_at 5)) a)) u out r after → Spells (kind_of k) a u out r after
  unfolding numbered width_at pick size in_order
  spells-f64 k e p = rw e (bytes (plain f64) _ _ (λ n pool b. refl) p)

  pub spells-little : (k : ℕ) → 20 ≤ k → k ≤ 25 → Puts (in_order le (little_bytes (size (width_at (k - 20))) a)) u out r after → Spells (kind_of k) a u out r after
  unfolding head_bytes plain_bytes
  spells-little k l h p = rw (little-sixth k l h) (bytes (plain (fixed le _ _)) _ _ (λ n pool b. refl) p)

  pub spells-big : (k : ℕ) → 26 ≤ k → k ≤ 31 → Puts (in_order be (little_bytes (size (width_at (k - 26))) a)) u out r after → Spells (kind_of k) a u out r after
  unfolding head_bytes plain_bytes
  spells-big k l h p = rw (big-sixth k l h) (bytes (plain (fixed be _ _)) _ _ (λ n pool b. refl) p)

  -- no bytes
  pub spells-struct : (k : ℕ) → k ≡ 18 → Puts [] u out r after → Spells (kind_of k) a u out r after
  unfolding numbered
  spells-struct k e p = rw e (bytes struct _ _ (λ n pool b. refl) p)

  pub spells-unit : (k : ℕ) → k ≡ 14 → Puts [] u out r after → Spells (kind_of k) a u out r after
  unfolding numbered
  spells-unit k e p = rw e (bytes (plain unit) _ _ (λ n pool b. refl) p)

  pub spells-char : (k : ℕ) → k ≡ 11 → Puts (with_count (char_bytes a)) u out r after → Spells (kind_of k) a u out r after
  unfolding numbered
  spells-char k e p = rw e (bytes (plain char) _ _ (λ n pool b. refl) p)

-- ---- chars, texts and bytes, of which the words say more

module _ (pool : List ℕ) (a b : ℕ) where
  pub fits-char : (k : ℕ) → k ≡ 11 → Fits (kind_of k) pool a b → is_char a ≡ true
  unfolding numbered
  fits-char k e f = (single-some _ b _ (rw e at f).is).0

  inside : (c : Content) → Fits (pooled c) pool a b → a + b ≤ length pool
  unfolding head_bytes
  inside c f = leb-true (a + b) (length pool) (both_left _ _ (when-some _ _ f.is).0)

  pub fits-part : (k : ℕ) → 12 ≤ k → k ≤ 13 → Fits (kind_of k) pool a b → a + b ≤ length pool
  unfolding kinds
  fits-part k l h f = in-kinds (λ x. Fits x pool a b → a + b ≤ length pool) 12 2 refl (inside _ & inside _ & end) k l (omega arith) f

  -- how many bytes a part has with its count
  pub length-form : a + b ≤ length pool → {n : ℕ} → n ≡ length (shortest b) → n + b ≡ length (with_count (part pool a b))
  unfolding part
  length-form inside e =
      let whole : length (part pool a b) ≡ b = simp (length-take, length-drop) (omega arith) in
      rw (length-with_count (part pool a b), whole, e)

  module _ {u : ℕ} {out : List ℕ} {r : ℕ} {after : List ℕ} (p : Puts (with_count (part pool a b)) u out r after) where
    content : (c : Content) → SpellsEntry (pooled c) pool a b u out r after
    unfolding head_bytes
    content c = record { puts = λ n e. rw (when-some _ _ e).1 at p }

    pub spells-part : (k : ℕ) → 12 ≤ k → k ≤ 13 → SpellsEntry (kind_of k) pool a b u out r after
    unfolding kinds
    spells-part k l h = in-kinds (λ x. SpellsEntry x pool a b u out r after) 12 2 refl (content _ & content _ & end) k l (omega arith)
