-- Where a text or bytes stand: their offset moves with the place of the item, and they end where the item does.
-- Assumes nothing.
use mathlib.Core.Path.{◌≡◌, refl}
use mathlib.Core.Bool.{Bool, true, false}
use mathlib.Core.List.{List}
use Prim.Native.Nat.{ℕ, ◌+◌}
use native.Mathlib.Nat.{zero-add}
use native.Mathlib.Omega.{arith}
use lib.Dec.{ltb}
use lib.ListN.{length, take, drop}
use Rattle.wire.specs.declared.Refusal.TheVariants.{End, BadUtf8}
use Rattle.wire.specs.declared.Own.{Own}
use Rattle.wire.specs.Item.{Item}
use Rattle.wire.specs.Item.{Took, Refused}
use Rattle.wire.specs.Tests.{pick}
use Rattle.wire.specs.Shape.{w64, Content, pooled}
use Rattle.wire.specs.Numbers.{varint, on_first}
use Rattle.wire.specs.Reading.{counted, is_content, content_in, content_of, head}
use Rattle.laws.proofs.Splits.{of-pick}

module _ (k : Content) (p : ℕ) (s : List ℕ) where
  content-moved : (c : Own) (t : List ℕ) → on_first (λ a. p + a) (content_of k 0 c t) ≡ content_of k p c t
  unfolding content_of on_first pick
  content-moved c t = go (ltb (length t) c.first) (is_content k (take c.first t))
    where
      go : (x u : Bool)
          → on_first (λ a. p + a) (pick x (Refused End) (pick u (Took (content_in 0 c)) (Refused BadUtf8)))
          ≡ pick x (Refused End) (pick u (Took (content_in p c)) (Refused BadUtf8))
      go true u = refl
      go false true = rw zero-add
      go false false = refl

  -- an offset counted from the item's first byte, and from the message's
  pub pooled-moved : (n : ℕ) → on_first (λ a. p + a) (head (pooled k) n 0 s) ≡ head (pooled k) n p s
  unfolding head counted on_first
  pooled-moved n = go (varint w64 s)
    where
      go : (i : Item) → on_first (λ a. p + a) (counted i (λ c. content_of k 0 c (drop c.used s))) ≡ counted i (λ c. content_of k p c (drop c.used s))
      go (Took c) = content-moved c (drop c.used s)
      go (Refused e) = refl

  pub pooled-ends : (n : ℕ) {own : Own} → head (pooled k) n p s ≡ Took own → own.first + own.second ≡ p + own.used
  unfolding head counted content_of
  pooled-ends n {own} = go (varint w64 s)
    where
      Ends : Item → Type 0
      Ends j = j ≡ Took own → own.first + own.second ≡ p + own.used

      go : (i : Item) → Ends (counted i (λ c. content_of k p c (drop c.used s)))
      go (Refused e) = λ q. cc
      go (Took c) =
          of-pick Ends (ltb (length (drop c.used s)) c.first) _ _ (λ e q. cc)
          (λ e. of-pick Ends (is_content k (take c.first (drop c.used s))) _ _
          (λ ok q. let same : content_in p c ≡ own = cc in rw (← same) (omega arith))
          (λ bad q. cc))
