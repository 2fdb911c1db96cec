-- Writing, reading back, telling both lists' entries apart and spelling their values: four walks over a shape that one law holds together.
-- Assumes nothing.
use mathlib.Core.Path.{◌≡◌, refl, sym, ap, ap₂, ◌∙◌}
use mathlib.Core.Bool.{true}
use mathlib.Core.List.{List, [], ◌∷◌, ◌++◌, append_assoc, map-append}
use mathlib.Core.List as lists
use mathlib.Core.Option.{Option, none, some}
use Prim.Native.Nat.{ℕ, suc, ◌+◌, ◌<◌, ◌^◌}
use native.Mathlib.Nat.{add_assoc, add-zero}
use lib.ListN.{length, drop, length-append}
use lib.Seq.{drop-append_seam}
use Rattle.wire.specs.Shape.{Kind, Shape}
use Rattle.wire.specs.Walk.{Follow, following, is_known, Walk, walk}
use Rattle.wire.specs.Values.{Entry, Tag, Told, tell_nothing, tell_then, tell_item, telling, tell, Value, value_of}
use Rattle.wire.specs.Reading.{Spot, Run, reached, run_after, past, read_nothing, read_on, read_then, enter, read_item, head, reading, read}
use Rattle.wire.specs.Writing.{Left, Wrote, wrote, misfit, wrote_after, head_bytes, write_nothing, write_on, write_then, spell, write_entry, write_item, writing, write}
use Rattle.laws.specs.Steps.{Every}
use Rattle.laws.specs.Told.{Tells}
use Rattle.laws.proofs.Walks.{every}
use Rattle.laws.proofs.Told.{nothing_tells, then-tells, item-tells}
use Rattle.laws.proofs.Parts as parts
use Rattle.laws.proofs.Heads.{tag, ItemBack, written_known, head-back}
use Rattle.promises.specs.Places.{places, Stand, stop, stands}
use Rattle.promises.proofs.Spelling.{Spelling, spelt, spell_on, spell_item, spelling, item-spells}

-- ---- entries

-- their words are u64
abbrev pub AreEntries : List Entry → Type 0
AreEntries [] = Unit {0}
AreEntries (e ∷ es) = (e.first < 2 ^ 64) × (e.second < 2 ^ 64) × AreEntries es

entries-left : (es fs : List Entry) → AreEntries (es ++ fs) → AreEntries es
entries-left [] fs h = tt
entries-left (e ∷ es) fs h = (h.0, h.1, entries-left es fs h.2)

entries-right : (es fs : List Entry) → AreEntries (es ++ fs) → AreEntries fs
entries-right [] fs h = h
entries-right (e ∷ es) fs h = entries-right es fs h.2

-- items that stand behind others
stand-then : {pool : List ℕ} {p : ℕ} {ts us : List Tag} {ps qs s t : List ℕ} → Stand pool p ts ps s → Stand pool (p + length s) us qs t
    → Stand pool p (ts ++ us) (ps ++ qs) (s ++ t)
stand-then {p} stop b = rw (add-zero p) at b
stand-then {p} {t} (stands n {s} {r} is a) b = rw (append_assoc s r t) (stands n is (stand-then a (rw (length-append s r, ← (add_assoc p (length s) (length r))) at b)))

-- ---- what is to be shown of the steps of the four walks

-- what f reads of s, which was written of so many entries told apart as ts, where s and then rest stand at the place p of a message
pub record Again (pool : List ℕ) (f : Spot → Run) (u : List Entry → Told) (count : ℕ) (ts : List Tag) (s : List ℕ) (p : ℕ) (rest message : List ℕ) : Type 0 where
  pub made : List Entry
  pub tags : List Tag
  pub reads : f (record { bytes = s ++ rest; place = p }) ≡ record { made = made; ends = reached (record { bytes = rest; place = p + length s }) }
  pub tells : Tells u made tags
  pub same : lists.map (value_of pool) ts ≡ lists.map (value_of message) tags
  pub many : length made ≡ count
  pub stand : Stand pool p ts (places made) s

-- s was written of the entries es in front of what is left
pub record Back (pool : List ℕ) (f : Spot → Run) (u : List Entry → Told) (v : List Value → Spelling) (es : List Entry) (s : List ℕ) (left : List Entry) : Type 0 where
  pub used : List Entry
  pub tags : List Tag
  pub split : es ≡ used ++ left
  pub tells : Tells u used tags
  pub spells : (vs : List Value) → v (lists.map (value_of pool) tags ++ vs) ≡ spelt s vs
  pub again : AreEntries used → (p : ℕ) (rest message : List ℕ) → drop p message ≡ s ++ rest → Again pool f u (length used) tags s p rest message

abbrev pub GoodBack : List ℕ → (Spot → Run) → (List Entry → Told) → (List Value → Spelling) → List Entry → Wrote → Type 0
GoodBack pool f u v es (wrote s x) = Back pool f u v es s x.entries
GoodBack pool f u v es (misfit i) = Unit {0}

-- whatever g writes f reads back, u tells both lists' entries apart, and v spells their values
pub record Trip (pool : List ℕ) (g : Left → Wrote) (f : Spot → Run) (u : List Entry → Told) (v : List Value → Spelling) : Type 0 where
  pub back : (x : Left) → GoodBack pool f u v x.entries (g x)

module _ (pool : List ℕ) where
  -- ---- nothing

  nothing-trip : Trip pool write_nothing read_nothing tell_nothing (spelt [])
  unfolding write_nothing read_nothing places
  nothing-trip =
      record {
        back = λ x. record { used = []; tags = []; split = refl; tells = nothing_tells; spells = λ vs. refl; again = λ h p rest message at. again p rest message };
      }
    where
      again : (p : ℕ) (rest message : List ℕ) → Again pool read_nothing tell_nothing 0 [] [] p rest message
      again p rest message = record { made = []; tags = []; reads = rw add-zero; tells = nothing_tells; same = refl; many = refl; stand = stop }

  -- ---- one after the other

  then-again : {f f' : Spot → Run} {u u' : List Entry → Told} {c c' p : ℕ} {ts us : List Tag} {s t rest message : List ℕ}
      → Again pool f u c ts s p (t ++ rest) message → Again pool f' u' c' us t (p + length s) rest message
      → Again pool (read_then f f') (tell_then u u') (c + c') (ts ++ us) (s ++ t) p rest message
  unfolding read_then read_on run_after places
  then-again {p} {ts} {us} {s} {t} {rest} {message} a b =
      record {
        made = a.made ++ b.made;
        tags = a.tags ++ b.tags;
        reads = rw (append_assoc s t rest, a.reads, b.reads, length-append s t, add_assoc p (length s) (length t));
        tells = then-tells a.tells b.tells;
        same = rw (map-append (value_of pool) ts us, map-append (value_of message) a.tags b.tags, a.same, b.same);
        many = length-append a.made b.made ∙ ap₂ ◌+◌ a.many b.many;
        stand = rw (map-append (λ e. e.place) a.made b.made) (stand-then a.stand b.stand);
      }

  module _ (f f' : Spot → Run) (u u' : List Entry → Told) (v v' : List Value → Spelling) where
    then-back : {es left : List Entry} {s : List ℕ} → Back pool f u v es s left → (w : Wrote) → GoodBack pool f' u' v' left w
        → GoodBack pool (read_then f f') (tell_then u u') (λ vs. spell_on (v vs) v') es (wrote_after s w)
    unfolding wrote_after
    then-back a (misfit i) b = tt
    then-back {s} a (wrote t y) b =
        let those : List Value = lists.map (value_of pool) a.tags in
        let these : List Value = lists.map (value_of pool) b.tags in
        record {
          used = a.used ++ b.used;
          tags = a.tags ++ b.tags;
          split = a.split ∙ ap (λ l. a.used ++ l) b.split ∙ sym (append_assoc a.used b.used y.entries);
          tells = then-tells a.tells b.tells;
          spells = λ vs.
              rw (map-append (value_of pool) a.tags b.tags, append_assoc those these vs, a.spells (these ++ vs), b.spells vs);
          again = λ h p rest message at.
              let at' : drop p message ≡ s ++ (t ++ rest) = at ∙ append_assoc s t rest in
              rw (length-append a.used b.used)
              (then-again (a.again (entries-left a.used b.used h) p (t ++ rest) message at')
              (b.again (entries-right a.used b.used h) (p + length s) rest message (parts.behind message s (t ++ rest) p at')));
        }

    then-trip : {g g' : Left → Wrote} → Trip pool g f u v → Trip pool g' f' u' v' → Trip pool (write_then g g') (read_then f f') (tell_then u u') (λ vs. spell_on (v vs) v')
    unfolding write_then write_on
    then-trip {g} {g'} a b = record { back = λ x. go x (g x) (a.back x) }
      where
        go : (x : Left) (w : Wrote) → GoodBack pool f u v x.entries w
            → GoodBack pool (read_then f f') (tell_then u u') (λ vs. spell_on (v vs) v') x.entries (write_on w g')
        go x (misfit i) h = tt
        go x (wrote s y) h = then-back h (g' y) (b.back y)

  -- ---- an item, and then what follows it

  module _ (k : Kind) (n : ℕ) (F : Follow → Spot → Run) (T : Follow → List Entry → Told) (S : Follow → List Value → Spelling) where
    abbrev f : Spot → Run
    f = read_item head k n (λ a. F (following k a))

    abbrev u : List Entry → Told
    u = tell_item k n (λ a. T (following k a))

    abbrev v : List Value → Spelling
    v = spell_item k n (λ a. S (following k a))

    item-again : {a b c q p : ℕ} {us : List Tag} {s t rest message : List ℕ} (i : ItemBack k n pool a b s p (t ++ rest) message)
        → head_bytes k n pool a b ≡ some s → is_known (following k a) n ≡ true → Again pool (F (following k a)) (T (following k a)) c us t (p + length s) rest message
        → Again pool f u (suc c) (tag k a b q ∷ us) (s ++ t) p rest message
    unfolding read_item enter run_after past places
    item-again {q} {p} {us} {s} {t} {rest} {message} i is knows b =
        record {
          made = record { first = i.first; second = i.second; place = p } ∷ b.made;
          tags = tag k i.first i.second p ∷ b.tags;
          reads =
              rw (append_assoc s t rest, i.reads, drop-append_seam s (t ++ rest), ← i.ways, b.reads, length-append s t, add_assoc p (length s) (length t));
          tells = item-tells k n _ _ (rw (← i.ways) knows) (rw (← i.ways) b.tells);
          same = ap₂ ◌∷◌ (i.same q p) b.same;
          many = ap suc b.many;
          stand = stands n is b.stand;
        }

    item_back : (e : Entry) (es : List Entry) {s : List ℕ} → head_bytes k n pool e.first e.second ≡ some s
        → (w : Wrote) → GoodBack pool (F (following k e.first)) (T (following k e.first)) (S (following k e.first)) es w
        → GoodBack pool f u v (e ∷ es) (wrote_after s w)
    unfolding wrote_after
    item_back e es is (misfit i) b = tt
    item_back e es {s} is (wrote t y) b =
        let spells = item-spells k n pool e is in
        record {
          used = e ∷ b.used;
          tags = record { kind = k; entry = e } ∷ b.tags;
          split = ap (λ l. e ∷ l) b.split;
          tells = item-tells k n _ e (written_known k n pool e.first e.second is) b.tells;
          spells = λ vs. rw (spells.ways, b.spells vs, spells.bytes);
          again = λ h p rest message at.
              let at' : drop p message ≡ s ++ (t ++ rest) = at ∙ append_assoc s t rest in
              item-again {q = e.place} (head-back n pool e.first e.second h.0 h.1 p (t ++ rest) message at' k is) is
              (written_known k n pool e.first e.second is)
              (b.again h.2 (p + length s) rest message (parts.behind message s (t ++ rest) p at'));
        }

    item-trip : (G : Follow → Left → Wrote) → ((a : ℕ) → Trip pool (G (following k a)) (F (following k a)) (T (following k a)) (S (following k a)))
        → Trip pool (write_item pool k n (λ a. G (following k a))) f u v
    unfolding write_item write_entry spell
    item-trip G trips = record { back = λ x. start x.at x.entries }
      where
        found : (j : ℕ) (e : Entry) (es : List Entry) (o : Option (List ℕ)) → head_bytes k n pool e.first e.second ≡ o
            → GoodBack pool f u v (e ∷ es) (spell o e.first (λ a. G (following k a)) j es)
        found j e es none is = tt
        found j e es (some s) is =
            let x : Left = record { at = j + 1; entries = es } in item_back e es is (G (following k e.first) x) ((trips e.first).back x)

        start : (j : ℕ) (es : List Entry) → GoodBack pool f u v es (write_entry k n pool (λ a. G (following k a)) j es)
        start j [] = tt
        start j (e ∷ es) = found j e es (head_bytes k n pool e.first e.second) refl

  -- ---- a shape

  data Which : Type 0 where
    writes reads tells spells : Which

  abbrev four : Which → Walk
  four writes = writing pool
  four reads = reading head
  four tells = telling
  four spells = spelling

  trips : Every four (λ s. Trip pool (s writes) (s reads) (s tells) (s spells))
  trips =
      record {
        none = nothing-trip;
        both = λ {f} {g}. then-trip (f reads) (g reads) (f tells) (g tells) (f spells) (g spells);
        made = λ s k n. item-trip k n (λ way. s way reads) (λ way. s way tells) (λ way. s way spells) (λ way. s way writes);
      }

  pub trip : (t : Shape) → Trip pool (write t pool) (read t) (tell t) (walk spelling t)
  unfolding write read tell
  trip = every trips
