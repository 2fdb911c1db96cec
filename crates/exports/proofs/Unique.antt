-- Each part that a contract names is an equation; where a chunk's rest begins is told by the rest's length, what a search in
-- a batch that passes answers is the last message, and a row has one import.
-- Assumes nothing.
use mathlib.Core.Path.{◌≡◌, sym, ap, subst, ◌∙◌}
use native.Mathlib.Omega.{arith}
use lib.ListN.{length, length-drop}
use Rattle.desk.specs.BatchFound.{BatchFound}
use Rattle.desk.specs.Batch.{found_says, from_of, len_of}
use Rattle.batches.proofs.Search.{searched-is-last}
use Rattle.spellings.proofs.Trips.{imports-exactly}
use Rattle.exports.specs.Calls.{CsvWrote}
use Rattle.exports.specs.Unique.{OneTold, OneRead, OneReadOpen, OneWrote, OneAsked, OneFedCall, OneTook, OneFound, OneCompared, OneBatchWrote, OneLast, OneCsvWrote, OneCsvImported}

-- two that equal a third
alike : {A : Type 0} {a x y : A} → x ≡ a → y ≡ a → x ≡ y
alike e f = e ∙ sym f

pub one_told : OneTold
one_told n x y h k = λ i. (alike h.number k.number i, alike h.place k.place i)

pub one-read : OneRead
one-read w store x y h k = λ i. (
  alike h.told.number k.told.number i,
  alike h.told.place k.told.place i,
  alike h.count k.count i,
  alike h.stored k.stored i,
)

pub one-read-open : OneReadOpen
one-read-open w store list x y h k = λ i. (
  alike h.told.number k.told.number i,
  alike h.told.place k.told.place i,
  alike h.count k.count i,
  alike h.stored k.stored i,
  alike h.handed k.handed i,
)

pub one-wrote : OneWrote
one-wrote f out x y h k = λ i. (
  alike h.told.number k.told.number i,
  alike h.told.place k.told.place i,
  alike h.written k.written i,
)

pub one-asked : OneAsked
one-asked a area x y h k = λ i. (
  alike h.told.told.number k.told.told.number i,
  alike h.told.told.place k.told.told.place i,
  alike h.told.which k.told.which i,
  alike h.told.yes k.told.yes i,
  alike h.handed k.handed i,
)

pub one-fed-call : OneFedCall
one-fed-call f mark chunk x y h k =
    let from : x.4 ≡ y.4 = omega (arith, simp length-drop at (ap length (alike h.rest k.rest))) in
    λ i. (
      alike h.number k.number i,
      alike h.idx k.idx i,
      alike h.waiting k.waiting i,
      alike h.len k.len i,
      from i,
      alike h.array k.array i,
      alike h.message k.message i,
    )

pub one-took : OneTook
one-took t before x y h k = λ i. (
  alike h.number k.number i,
  alike h.place k.place i,
  alike h.first k.first i,
  alike h.second k.second i,
  alike h.at k.at i,
)

pub one_found : OneFound
one_found a x y h k = λ i. (
  alike h.told.number k.told.number i,
  alike h.told.place k.told.place i,
  alike h.first k.first i,
  alike h.second k.second i,
)

pub one-compared : OneCompared
one-compared w list x y h k = λ i. (
  alike h.told.told.number k.told.told.number i,
  alike h.told.told.place k.told.told.place i,
  alike h.told.which k.told.which i,
  alike h.told.count k.told.count i,
  alike h.listed k.listed i,
)

pub one-batch-wrote : OneBatchWrote
one-batch-wrote made out x y h k = λ i. (
  alike h.told.number k.told.number i,
  alike h.told.place k.told.place i,
  alike h.written k.written i,
)

pub one_last : OneLast
one_last table batch store product good x y h k =
    let same : h.answer ≡ k.answer = alike (searched-is-last table batch _ _ good h.searched) (searched-is-last table batch _ _ good k.searched) in
    λ i. (
      alike (h.told.told.number ∙ ap (λ (a : BatchFound). (found_says a).number) same) k.told.told.number i,
      alike (h.told.told.place ∙ ap (λ (a : BatchFound). (found_says a).place) same) k.told.told.place i,
      alike (h.told.starts ∙ ap from_of same) k.told.starts i,
      alike (h.told.long ∙ ap len_of same) k.told.long i,
    )

pub one-csv-wrote : OneCsvWrote
one-csv-wrote made out x y h k = λ i. (
  alike h.told.number k.told.number i,
  alike h.told.place k.told.place i,
  alike h.written k.written i,
)

pub one-csv-imported : OneCsvImported
one-csv-imported table row out x y h k =
    let one = imports-exactly table row (length out) in
    let same : h.output ≡ k.output = sym ((one h.output).0 h.imports) ∙ (one k.output).0 k.imports in
    one-csv-wrote k.output out x y (subst (λ o. CsvWrote o out x.0 x.1 x.2) same h.wrote) k.wrote
