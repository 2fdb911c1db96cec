-- T-14: the frames that we send. A message is cut into groups by the COBS paper's rule, each stands behind its code, and a zero closes the frame.
-- Assumes nothing.
use Rattle.std.specs.Prelude.{List, [], ◌∷◌, ◌++◌, ℕ, zero, suc, length, leb}
use Rattle.wire.specs.declared.Refusal.TheVariants.{Full}
use Rattle.wire.specs.Tests.{pick}
use Rattle.wire.specs.Answers.{Form, form, no_form}

-- a group is full with 254 bytes: so many stand in front of the one that fills it
unfoldable pub unfilled : ℕ
unfilled = 253

-- the groups of a message: `held` are the bytes of the open group, which takes `left` more without being full.
-- A zero ends a group and is in none. The byte that fills a group ends it too; a full group stands for no zero, and where the message ends with it no group follows.
unfoldable pub groups_of : (held : List ℕ) (left : ℕ) → List ℕ → List (List ℕ)
groups_of held left [] = held ∷ []
groups_of held left (zero ∷ m) = held ∷ groups_of [] unfilled m
groups_of held (suc left) (suc b ∷ m) = groups_of (held ++ (suc b ∷ [])) left m
groups_of held zero (suc b ∷ []) = (held ++ (suc b ∷ [])) ∷ []
groups_of held zero (suc b ∷ c ∷ m) = (held ++ (suc b ∷ [])) ∷ groups_of [] unfilled (c ∷ m)

unfoldable pub groups : List ℕ → List (List ℕ)
groups m = groups_of [] unfilled m

-- a group behind its code, which counts the group's bytes and itself
unfoldable pub group : List ℕ → List ℕ
group s = suc (length s) ∷ s

unfoldable pub coded : List (List ℕ) → List ℕ
coded [] = []
coded (s ∷ gs) = group s ++ coded gs

-- a message's frame without its closing zero
unfoldable pub encode : List ℕ → List ℕ
encode m = coded (groups m)

-- and with it
unfoldable pub frame : List ℕ → List ℕ
frame m = encode m ++ (0 ∷ [])

-- the frame, or 12 at place 0 where it is longer than the output, the limit; `write_answer` and `out_with` say the rest, as of any form
unfoldable pub sends : List ℕ → (limit : ℕ) → Form
sends m limit = pick (leb (length (frame m)) limit) (form (frame m)) (no_form Full 0)
