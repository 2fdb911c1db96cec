-- Going over the bytes of two messages that are read gives the differences of their entries, for every test of entries that says what
-- their own bytes say.
-- Assumes nothing.
use mathlib.Core.Path.{◌≡◌, refl, sym, ap, ◌∙◌}
use mathlib.Core.Bool.{Bool, true, false}
use mathlib.Core.List.{List, [], ◌∷◌, ◌++◌, append_assoc, append-nil}
use Prim.Native.Nat.{ℕ, ◌+◌}
use lib.ListN.{length, length-append}
use Rattle.wire.specs.declared.Own.{Own}
use Rattle.wire.specs.Item.{Took}
use Rattle.wire.specs.Tests.{given}
use Rattle.wire.specs.Shape.{Kind, Shape}
use Rattle.wire.specs.Walk.{Follow, following, Walk, walk}
use Rattle.wire.specs.Values.{Entry}
use Rattle.wire.specs.Reading.{head, Spot, front, Run, reached, read_nothing, read_then, past, entry_of, read_item, reading, read}
use Rattle.laws.specs.Steps.{Every}
use Rattle.laws.proofs.Walks.{every}
use Rattle.laws.proofs.Runs.{same_spot, then-read, item-read}
use Rattle.desk.specs.Differ.{Test, same_item, Pair, Sides, beside, alone, Compared, sole, pairing, compare_nothing, compare_then, differing, compare_two, pass_one, compare_item, comparing, take_entry, listed, differences}
use Rattle.beside.specs.Meeting.{same_own, Met, met, met_after, meet_nothing, meet_on, meet_then, met_apart, meet_two, meet_item, meeting}
use Rattle.beside.specs.Laws.{Passes, passes, MeetsReads, SameMet, SameRest}
use Rattle.beside.proofs.Same.{item-follows}
use Rattle.beside.proofs.Readings.{one_more, reads_nothing, reads_then, reads-item, own-follows}
use Rattle.beside.proofs.Owns.{Stands, stands-front, stands-past, head-used, fine-item, Agrees, own-agrees, rest-agrees}

-- a run that ended
abbrev run : List Entry → Spot → Run
run es y = record { made = es; ends = reached y }

made_nothing : {x y : Spot} {es : List Entry} → run [] x ≡ run es y → [] ≡ es
made_nothing e = ap (λ r. r.made) e

ended-nothing : {x y : Spot} {es : List Entry} → run [] x ≡ run es y → x ≡ y
ended-nothing e = same_spot (ap (λ r. r.ends) e)

-- a side alone, where a reading ended
passed : {es : List Entry} {r : Run} {y : Spot} {m : Met} → Passes r.made r.ends m → r ≡ run es y → m ≡ met (length es) 0 [] (alone y)
passed p e = go (rw e at p)
  where
    go : {es : List Entry} {y : Spot} {m : Met} → Passes es (reached y) m → m ≡ met (length es) 0 [] (alone y)
    go passes = refl

module _ (one other : List ℕ) (same : Test) (agrees : Agrees one other same)
    (follows : (k : Kind) (e f : Entry) → same k e f ≡ true → following k e.first ≡ following k f.first) where
  -- the same pairs, each walk behind what it went over
  record Both (c : Compared (List Entry)) (d : Met) (es es' more more' : List Entry) (y y' : Spot) : Type 0 where
    pairs : List Pair
    listed-so : c ≡ record { pairs = pairs; rest = beside more more' }
    met-so : d ≡ met (length es) (length es') pairs (beside y y')

  record Going (f : Spot → Run) (c : Sides (List Entry) → Compared (List Entry)) (d : Sides Spot → Met) : Type 0 where
    reads : MeetsReads f d
    lists : (x y : Spot) (es more : List Entry) → f x ≡ run es y → c (alone (es ++ more)) ≡ record { pairs = []; rest = alone more }
    stands : (m : List ℕ) (x y : Spot) (es : List Entry) → f x ≡ run es y → Stands m x → Stands m y
    goes : (x x' y y' : Spot) (es es' more more' : List Entry) → Stands one x → Stands other x' → f x ≡ run es y → f x' ≡ run es' y'
        → Both (c (beside (es ++ more) (es' ++ more'))) (d (beside x x')) es es' more more' y y'

  going-nothing : Going read_nothing compare_nothing meet_nothing
  unfolding read_nothing compare_nothing meet_nothing
  going-nothing =
      record {
        reads = reads_nothing;
        lists = λ x y es more e. rw (← made_nothing e);
        stands = λ m x y es e h. rw (← ended-nothing e) h;
        goes = λ x x' y y' es es' more more' h h' e e'. record { pairs = []; listed-so = rw (← made_nothing e, ← made_nothing e'); met-so = rw (← made_nothing e, ← made_nothing e', ended-nothing e, ended-nothing e') };
      }

  module _ {f g : Spot → Run} {c c' : Sides (List Entry) → Compared (List Entry)} {d d' : Sides Spot → Met} (h : Going f c d) (k : Going g c' d') where
    then-lists : (x y : Spot) (es more : List Entry) → read_then f g x ≡ run es y → compare_then c c' (alone (es ++ more)) ≡ record { pairs = []; rest = alone more }
    unfolding compare_then pairing
    then-lists x y es more e =
        let s = then-read f g x es y e in
        rw (s.all, append_assoc s.these s.those more, h.lists x s.between s.these (s.those ++ more) s.first, k.lists s.between y s.those more s.second)

    joined : (x x' : Spot) {z z' y y' : Spot} {es es' : List Entry} (ds ds' fs fs' more more' : List Entry) → es ≡ ds ++ fs → es' ≡ ds' ++ fs'
        → Both (c (beside (ds ++ (fs ++ more)) (ds' ++ (fs' ++ more')))) (d (beside x x')) ds ds' (fs ++ more) (fs' ++ more') z z'
        → Both (c' (beside (fs ++ more) (fs' ++ more'))) (d' (beside z z')) fs fs' more more' y y'
        → Both (compare_then c c' (beside (es ++ more) (es' ++ more'))) (meet_then d d' (beside x x')) es es' more more' y y'
    unfolding compare_then pairing meet_then meet_on met_after
    joined x x' ds ds' fs fs' more more' p p' a b =
        record {
          pairs = a.pairs ++ b.pairs;
          listed-so = rw (p, p', append_assoc ds fs more, append_assoc ds' fs' more', a.listed-so, b.listed-so);
          met-so = rw (a.met-so, b.met-so, p, p', length-append ds fs, length-append ds' fs');
        }

    then-goes : (x x' y y' : Spot) (es es' more more' : List Entry) → Stands one x → Stands other x' → read_then f g x ≡ run es y → read_then f g x' ≡ run es' y'
        → Both (compare_then c c' (beside (es ++ more) (es' ++ more'))) (meet_then d d' (beside x x')) es es' more more' y y'
    then-goes x x' y y' es es' more more' w w' e e' =
        let s = then-read f g x es y e in
        let r = then-read f g x' es' y' e' in
        joined x x' s.these r.these s.those r.those more more' s.all r.all
        (h.goes x x' s.between r.between s.these r.these (s.those ++ more) (r.those ++ more') w w' s.first r.first)
        (k.goes s.between r.between y y' s.those r.those more more' (h.stands one x s.between s.these s.first w) (h.stands other x' r.between r.these r.first w') s.second r.second)

    then-stands : (m : List ℕ) (x y : Spot) (es : List Entry) → read_then f g x ≡ run es y → Stands m x → Stands m y
    then-stands m x y es e w =
        let s = then-read f g x es y e in
        k.stands m s.between y s.those s.second (h.stands m x s.between s.these s.first w)

    going-then : Going (read_then f g) (compare_then c c') (meet_then d d')
    going-then = record { reads = reads_then h.reads k.reads; lists = then-lists; stands = then-stands; goes = then-goes }

  module _ (f : Follow → Spot → Run) (c : Follow → Sides (List Entry) → Compared (List Entry)) (d : Follow → Sides Spot → Met) (k : Kind) (n : ℕ)
      (h : (a : ℕ) → Going (f (following k a)) (c (following k a)) (d (following k a))) where
    item-lists : (x y : Spot) (es more : List Entry) → read_item head k n (λ a. f (following k a)) x ≡ run es y
        → compare_item listed same k n (λ a. c (following k a)) (alone (es ++ more)) ≡ record { pairs = []; rest = alone more }
    unfolding compare_item take_entry pass_one
    item-lists x y es more e =
        let s = item-read head k n (λ a. f (following k a)) x es y e in
        rw s.all ((h s.own.first).lists (past s.own.used x) y s.those more s.inside)

    item-stands : (m : List ℕ) (x y : Spot) (es : List Entry) → read_item head k n (λ a. f (following k a)) x ≡ run es y → Stands m x → Stands m y
    item-stands m x y es e w =
        let s = item-read head k n (λ a. f (following k a)) x es y e in
        (h s.own.first).stands m (past s.own.used x) y s.those s.inside (stands-past m x s.own.used (head-used k n x s.took) w)

    abbrev listed_two : Bool → (e e' : Entry) → List Entry → List Entry → Compared (List Entry)
    listed_two t e e' es es' =
        given t (λ _. c (following k e.first) (beside es es')) (differing (λ a. c (following k a)) (record { entry = e; rest = es }) (record { entry = e'; rest = es' }))

    abbrev met_two : Bool → (p : Pair) (a a' : ℕ) → Spot → Spot → Met
    met_two t p a a' z z' =
        given t (λ _. met_after 1 1 [] (d (following k a) (beside z z'))) (met_apart p (d (following k a) (alone z)) (d (following k a') (alone z')))

    inside : {r : Compared (List Entry)} {m : Met} (e e' : Entry) {es es' more more' : List Entry} {y y' : Spot} → Both r m es es' more more' y y'
        → Both r (met_after 1 1 [] m) (e ∷ es) (e' ∷ es') more more' y y'
    unfolding met_after
    inside e e' {es} {es'} b = record { pairs = b.pairs; listed-so = b.listed-so; met-so = rw (b.met-so, one_more (length es), one_more (length es')) }

    two : (e e' : Entry) (z z' y y' : Spot) (es es' more more' : List Entry) → Stands one z → Stands other z'
        → f (following k e.first) z ≡ run es y → f (following k e'.first) z' ≡ run es' y' → (t : Bool) → same k e e' ≡ t
        → Both (listed_two t e e' (es ++ more) (es' ++ more')) (met_two t (record { one = e.place; other = e'.place }) e.first e'.first z z') (e ∷ es) (e' ∷ es') more more' y y'
    unfolding given
    two e e' z z' y y' es es' more more' w w' p q true t =
        inside e e' ((h e.first).goes z z' y y' es es' more more' w w' p (rw (follows k e e' t) q))
    two e e' z z' y y' es es' more more' w w' p q false t =
        record {
          pairs = record { one = e.place; other = e'.place } ∷ [];
          listed-so = unfold differing in rw ((h e.first).lists z y es more p, (h e'.first).lists z' y' es' more' q) (unfold sole in refl);
          met-so = rw (passed ((h e.first).reads.passing z) p, passed ((h e'.first).reads.passing z') q) (unfold met_apart sole in rw (one_more (length es), one_more (length es')));
        }

    laid : (x x' : Spot) {y y' : Spot} {es es' ds ds' more more' : List Entry} (a a' : Own) → es ≡ entry_of a x ∷ ds → es' ≡ entry_of a' x' ∷ ds'
        → head k n x.place x.bytes ≡ Took a → head k n x'.place x'.bytes ≡ Took a' → same_own k a x.bytes a' x'.bytes ≡ same k (entry_of a x) (entry_of a' x')
        → Both (listed_two (same k (entry_of a x) (entry_of a' x')) (entry_of a x) (entry_of a' x') (ds ++ more) (ds' ++ more'))
        (met_two (same k (entry_of a x) (entry_of a' x')) (record { one = x.place; other = x'.place }) a.first a'.first (past a.used x) (past a'.used x')) (entry_of a x ∷ ds) (entry_of a' x' ∷ ds') more more' y y'
        → Both (compare_item listed same k n (λ a. c (following k a)) (beside (es ++ more) (es' ++ more'))) (meet_item k n (λ a. d (following k a)) (beside x x')) es es' more more' y y'
    unfolding compare_item take_entry compare_two meet_item
    laid x x' a a' p p' l l' w m = rw (p, p', l, l') (unfold meet_two in rw w m)

    item-goes : (x x' y y' : Spot) (es es' more more' : List Entry) → Stands one x → Stands other x'
        → read_item head k n (λ a. f (following k a)) x ≡ run es y → read_item head k n (λ a. f (following k a)) x' ≡ run es' y'
        → Both (compare_item listed same k n (λ a. c (following k a)) (beside (es ++ more) (es' ++ more'))) (meet_item k n (λ a. d (following k a)) (beside x x')) es es' more more' y y'
    item-goes x x' y y' es es' more more' w w' e e' =
        let s = item-read head k n (λ a. f (following k a)) x es y e in
        let r = item-read head k n (λ a. f (following k a)) x' es' y' e' in
        laid x x' s.own r.own s.all r.all s.took r.took
        (agrees k x x' s.own r.own (fine-item one k n x s.own s.took w) (fine-item other k n x' r.own r.took w'))
        (two (entry_of s.own x) (entry_of r.own x') (past s.own.used x) (past r.own.used x') y y' s.those r.those more more'
        (stands-past one x s.own.used (head-used k n x s.took) w) (stands-past other x' r.own.used (head-used k n x' r.took) w') s.inside r.inside (same k (entry_of s.own x) (entry_of r.own x')) refl)

    going-item : Going (read_item head k n (λ a. f (following k a))) (compare_item listed same k n (λ a. c (following k a))) (meet_item k n (λ a. d (following k a)))
    going-item = record { reads = reads-item k n f d (λ a. (h a).reads) (own-follows k); lists = item-lists; stands = item-stands; goes = item-goes }

  data Way : Type 0 where
    reads lists meets : Way

  abbrev ways : Way → Walk
  ways reads = reading head
  ways lists = comparing listed same
  ways meets = meeting

  going : (t : Shape) → Going (read t) (walk (comparing listed same) t) (walk meeting t)
  unfolding read
  going t = every law t
    where
      law : Every ways (λ f. Going (f reads) (f lists) (f meets))
      law = record { none = going-nothing; both = going-then; made = λ f k n h. going-item (λ way. f way reads) (λ way. f way lists) (λ way. f way meets) k n h }

  met-listed : (t : Shape) (es fs : List Entry) (x y : Spot) → read t (front one) ≡ run es x → read t (front other) ≡ run fs y
      → walk meeting t (beside (front one) (front other)) ≡ met (length es) (length fs) (walk (comparing listed same) t (beside es fs)).pairs (beside x y)
  met-listed t es fs x y a b =
      let r = (going t).goes (front one) (front other) x y es fs [] [] (stands-front one) (stands-front other) a b in
      r.met-so ∙ ap (λ ps. met (length es) (length fs) ps (beside x y)) (sym (ap (λ c. c.pairs) (rw (append-nil es, append-nil fs) at r.listed-so)))

pub same_met : SameMet
unfolding differences
same_met t one other es fs x y p q = met-listed one other (same_item one other) (own-agrees one other) (item-follows one other) t es fs x y p q

met-pairs : {m n m' n' : ℕ} {ps qs : List Pair} {z z' : Sides Spot} → met m n ps z ≡ met m' n' qs z' → ps ≡ qs
met-pairs e = cc

pub same_rest : SameRest
unfolding differences
same_rest t one extra other es fs x y p q =
    met-pairs (sym (met-listed one other (same_item (one ++ extra) other) (rest-agrees one extra other) (item-follows (one ++ extra) other) t es fs x y p q) ∙ same_met t one other es fs x y p q)
