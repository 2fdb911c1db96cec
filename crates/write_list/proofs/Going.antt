-- A writing goes on with bytes in front of what is left of it: what the rest gives, the whole gives, and a step is written or is the misfit.
-- Assumes nothing.
use Rattle.std.specs.Prelude.{Err, Ok}
use mathlib.Core.Path.{◌≡◌, refl, sym, ap, ◌∙◌}
use mathlib.Core.Bool.{Bool}
use mathlib.Core.List.{List, [], ◌++◌, append-nil, append_assoc}
use Prim.Native.Nat.{ℕ, ◌*◌, ◌^◌, ◌<◌}
use native.Mathlib.Omega.{arith}
use lib.ListN.{length}
use Rattle.wire.specs.Writing.{Left, Wrote, wrote, misfit, wrote_after, write_nothing, write_on, write_then}
use Rattle.output.proofs.Counting.{puts_none, puts-both}
use Rattle.write_list.specs.Put.{Put}
use Rattle.write_list.specs.Put.{Done, Misfit}
use Rattle.write_list.specs.Steps.{entries, Sure, Going, GivesBy, Gives, Keeps}

-- a slice of bytes, as its room is told: the search of `omega` over a place's facts takes longer
pub few_bytes : (n : ℕ) → n * 1 < 2 ^ 63 → n < 2 ^ 63
few_bytes n h = omega arith

-- ---- bytes in front

pub after_none : (w : Wrote) → wrote_after [] w ≡ w
unfolding wrote_after
after_none (wrote s x) = refl
after_none (misfit i) = refl

after-after : (s t : List ℕ) (w : Wrote) → wrote_after s (wrote_after t w) ≡ wrote_after (s ++ t) w
unfolding wrote_after
after-after s t (wrote u x) = rw append_assoc
after-after s t (misfit i) = refl

on-after : (s : List ℕ) (w : Wrote) (h : Left → Wrote) → write_on (wrote_after s w) h ≡ wrote_after s (write_on w h)
unfolding wrote_after write_on
on-after s (wrote t x) h = sym (after-after s t (h x))
on-after s (misfit i) h = refl

pub then-nothing : (f : Left → Wrote) (x : Left) → write_then f write_nothing x ≡ f x
unfolding write_then write_on wrote_after write_nothing
then-nothing f x = go (f x)
  where
    go : (w : Wrote) → write_on w write_nothing ≡ w
    go (wrote s y) = rw append-nil
    go (misfit i) = refl

-- ---- a writing goes on

-- a writing is a step f, and then h
pub record First (w : Wrote) (f h : Left → Wrote) (x : Left) : Type 0 where
  pub is : w ≡ write_then f h x

pub going-begin : (w : Wrote) (u : ℕ) (out : List ℕ) → u < 2 ^ 64 → Going w w u out u out
going-begin w u out h = record { bytes = []; is = sym (after_none w); puts = puts_none u out h }

module _ {w rest : Wrote} {u : ℕ} {before : List ℕ} {n : ℕ} {out : List ℕ} (small : length before < 2 ^ 63) (g : Going w rest u before n out) where
  pub going_on : {last : Wrote} {m : ℕ} {end : List ℕ} → Going rest last n out m end → Going w last u before m end
  going_on {last} d =
      record { bytes = g.bytes ++ d.bytes; is = g.is ∙ ap (wrote_after g.bytes) d.is ∙ after-after g.bytes d.bytes last; puts = puts-both small g.puts d.puts }

  pub no-going-on : {i : ℕ} → rest ≡ misfit i → w ≡ misfit i
  unfolding wrote_after
  no-going-on e = g.is ∙ ap (wrote_after g.bytes) e

  by : (ws : List ℕ) (r : Put) (end : List ℕ) → GivesBy rest ws n out r end → GivesBy w ws u before r end
  by ws (Ok r) end d = going_on d
  by ws (Err r) end e = no-going-on e

  pub gives_whole : {ws : List ℕ} {r : Put} {end : List ℕ} → Gives rest ws n out r end → Gives w ws u before r end
  gives_whole {ws} {r} {end} h = record { holds = by ws r end h.holds }

  pub sure-rest : {judged : Bool} → Sure judged w → Sure judged rest
  sure-rest s = record { never = λ j i e. s.never j i (no-going-on e) }

  -- its first step was taken
  module _ {f h : Left → Wrote} {x : Left} (first : First rest f h x) where
    first-no : {j : ℕ} → f x ≡ misfit j → w ≡ misfit j
    unfolding write_then write_on
    first-no m = no-going-on (first.is ∙ ap (λ y. write_on y h) m)

    pub sure-first : {judged : Bool} → Sure judged w → Sure judged (f x)
    sure-first s = record { never = λ j i m. s.never j i (first-no m) }

    module _ {ws : List ℕ} {r : Put} {end : List ℕ} (c : Gives (f x) ws n out r end) where
      pub first-misfit : {j : ℕ} → r ≡ Misfit j → Gives w ws u before r end
      first-misfit q = rw q (record { holds = first-no (rw q at c.holds) })

      pub first_done : {j m : ℕ} → r ≡ Done j m → Going w (h (entries ws j)) u before m end
      unfolding write_then write_on
      first_done {j} {m} q =
          let d : Going (f x) (wrote [] (entries ws j)) n out m end = rw q at c.holds in
          going_on
          (record {
            bytes = d.bytes;
            is =
                first.is ∙ ap (λ y. write_on y h) d.is ∙ on-after d.bytes (wrote [] (entries ws j)) h
                ∙ ap (wrote_after d.bytes) (after_none (h (entries ws j)));
            puts = d.puts;
          })

pub going_end : {w : Wrote} {ws : List ℕ} {u : ℕ} {before : List ℕ} {n : ℕ} {out : List ℕ} {rest : Wrote} {i : ℕ} → Going w rest u before n out → rest ≡ write_nothing (entries ws i)
    → Gives w ws u before (Done i n) out
unfolding write_nothing
going_end {w} {ws} {u} {before} {n} {out} g e = record { holds = record { bytes = g.bytes; is = g.is ∙ ap (wrote_after g.bytes) e; puts = g.puts } }

pub gives-misfit : {w : Wrote} {ws : List ℕ} {u : ℕ} {before : List ℕ} {i : ℕ} {out : List ℕ} → w ≡ misfit i → Gives w ws u before (Misfit i) out
gives-misfit e = record { holds = e }

-- ---- nothing was put

pub keeps-done : {before : List ℕ} {at n : ℕ} {out : List ℕ} → Keeps before (Done at n) out
keeps-done {before} {at} {n} = record { same = λ {i} e. let z : ◌≡◌ {A = Put} (Done at n) (Misfit i) = e in let o : ◌≡◌ {A = ℕ} 0 1 = cc in absurd (omega arith) }

pub keeps_same : {before : List ℕ} {r : Put} → Keeps before r before
keeps_same = record { same = λ e. refl }
