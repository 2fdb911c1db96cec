-- Texts and chars read byte by byte, by how many bytes they have and not by which.
-- Assumes nothing.
use Rattle.std.specs.Prelude.{◌≡◌, Bool, true, false, List, ℕ, zero, suc, ◌+◌, ◌-◌, ◌<◌, ◌≤◌, ltb, leb, eqb, length, get_or, Some, None, Result, Ok, Err}
use Rattle.std.specs.Prelude as code
use Rattle.std.proofs.Math.Option.{Option, none, some}
use Rattle.wire.specs.Tests.{pick, both}
use Rattle.wire.specs.Text.{width_of, low_of, high_of}
use Rattle.desk.specs.Csv.{quote}
use Rattle.spellings.specs.Accept.{Acceptor, when}
use Rattle.take_number.specs.declared.Stop.{Stop}
use Rattle.take_number.specs.Scans.{is_at, Ends}
use Rattle.take_text.specs.declared.Quoted.{Quoted}
use Rattle.take_text.specs.declared.Step.{Step}

-- before the quote; behind n bytes, k more of a char being open, the next from lo to hi; behind n bytes and a quote
pub data Mark : Type 0 where
  before : Mark
  within : (n k lo hi : ℕ) → Mark
  behind : (n : ℕ) → Mark

-- a further char may follow n bytes
unfoldable pub may_go_on : (one : Bool) → ℕ → Bool
may_go_on false n = true
may_go_on true n = eqb n 0

unfoldable pub mark_step : (one : Bool) → Mark → ℕ → Option Mark
mark_step one before b = when (eqb b quote) (within 0 0 0 0)
mark_step one (within n zero lo hi) b =
    pick (eqb b quote) (some (behind n)) (when (both (may_go_on one n) (ltb 0 (width_of b))) (within (n + 1) (width_of b - 1) (low_of b) (high_of b)))
mark_step one (within n (suc k) lo hi) b = when (both (leb lo b) (leb b hi)) (within (n + 1) k 0x80 0xbf)
mark_step one (behind n) b = when (both (eqb b quote) (may_go_on one n)) (within (n + 1) 0 0 0)

abbrev pub marks : (one : Bool) → Acceptor
marks one = record { State = Mark; start = before; step = mark_step one; value = λ x. none }

-- a spelling is whole: of a char only with a byte
unfoldable pub is_whole : (one : Bool) → Mark → Bool
is_whole one before = false
is_whole one (within n k lo hi) = false
is_whole false (behind n) = true
is_whole true (behind n) = ltb 0 n

-- from a state at the place i on, what is answered: a whole spelling of so many bytes, or where it stops
pub data Answers (one : Bool) (x : Mark) (s : List ℕ) (i : ℕ) : Result Quoted Stop → Type 0 where
  quoted : {n j : ℕ} → Ends (marks one) x s i (behind n) j → is_whole one (behind n) ≡ true → Answers one x s i (Ok (record { len = n; at = j }))
  stops : {y : Mark} {j : ℕ} → Ends (marks one) x s i y j → is_whole one y ≡ false → Answers one x s i (Err (record { at = j }))

-- one byte more of a text behind n bytes, or the closing quote, or where it stops
pub data Turns (one : Bool) (n k lo hi : ℕ) (s : List ℕ) (i : ℕ) : Result (code.Option Step) Stop → Type 0 where
  on : {j l m o : ℕ} → ((y : Mark) (z : ℕ) → Ends (marks one) (within (n + 1) l m o) s j y z → Ends (marks one) (within n k lo hi) s i y z) → i < j → j ≤ length s
      → Turns one n k lo hi s i (Ok (Some (record { at = j; rest = record { more = l; low = m; high = o } })))
  closes : Answers one (within n k lo hi) s i (Ok (record { len = n; at = i + 1 })) → Turns one n k lo hi s i (Ok None)
  out : {r : Stop} → Answers one (within n k lo hi) s i (Err r) → Turns one n k lo hi s i (Err r)

-- the same at a quote, where no bytes are open
pub record AtQuote (one : Bool) (n : ℕ) (s : List ℕ) (i : ℕ) (r : Result (code.Option Step) Stop) : Type 0 where
  pub any : (lo hi : ℕ) → Turns one n 0 lo hi s i r

-- from the place i up to j all bytes are plain, below 0x80 and no quote; past any it is only gone in a text and between chars
pub record PassesPlain (one : Bool) (k : ℕ) (s : List ℕ) (i j : ℕ) : Type 0 where
  pub forth : i ≤ j
  pub inside : j ≤ length s
  pub between : i < j → (one ≡ false) × (k ≡ 0)
  pub plain : (p : ℕ) → i ≤ p → p < j → (get_or s p 0 < 0x80) × (get_or s p 0 ≡ quote → ⊥)

-- an end of the next byte's range behind a run of plain bytes, or what it was where the run is empty
unfoldable pub behind_run : (run plain was : ℕ) → ℕ
behind_run zero plain was = was
behind_run (suc run) plain was = plain

-- a quote stands at a place
abbrev pub is_quote : List ℕ → ℕ → Bool
is_quote s i = is_at s i quote
