-- The columns of every table that has rows are exact.
-- Assumes nothing.
use mathlib.Core.Path.{◌≡◌, refl, sym}
use mathlib.Core.Path as paths
use mathlib.Core.Bool.{true}
use mathlib.Core.List.{List, ◌∷◌}
use mathlib.Core.Option.{Option, none, some, some-injective, none-ne-some}
use Prim.Native.Nat.{◌-◌}
use native.Mathlib.Omega.{arith}
use lib.Dec.{leb}
use Rattle.wire.specs.Tests.{pick, given, both, decided}
use Rattle.wire.specs.Shape.{Width, w16, w32, w64, bits, Sign, signed, unsigned, Plain, bool, i8, u8, f32, f64, char, unit, int, fixed, Content, text, raw, Kind, plain, pooled, option, sequence, map, struct, enum, same_kind, Shape, node, Shapes, none as no_shape, more, count}
use Rattle.laws.proofs.Splits.{by-test}
use Rattle.desk.specs.Csv.{Style, integers, style_of_plain, style_of_content, style_of, Column, and_column, kind_of_root, columns, columns_of, styles_of, most_fields}
use Rattle.spellings.specs.Exact.{ExactStyle, AllExact, no_field, and_field}
use Rattle.spellings.proofs.Numerals.{numeral-exact}
use Rattle.spellings.proofs.Hexes.{hex-exact}
use Rattle.spellings.proofs.Quoted.{text-exact, char-exact}

integers-exact : (g : Sign) (w : Width) → ExactStyle (integers g (bits w))
unfolding integers bits
integers-exact signed w16 = numeral-exact _ _ (omega arith)
integers-exact signed w32 = numeral-exact _ _ (omega arith)
integers-exact signed w64 = numeral-exact _ _ (omega arith)
integers-exact unsigned w16 = numeral-exact _ _ (omega arith)
integers-exact unsigned w32 = numeral-exact _ _ (omega arith)
integers-exact unsigned w64 = numeral-exact _ _ (omega arith)

integers8-exact : (g : Sign) → ExactStyle (integers g 8)
unfolding integers
integers8-exact signed = numeral-exact _ _ (omega arith)
integers8-exact unsigned = numeral-exact _ _ (omega arith)

is_some : {f g : Style} → ExactStyle f → some f ≡ some g → ExactStyle g
is_some {f = f} {g = g} h e = paths.subst (λ f. ExactStyle f) (some-injective f g e) h

leaf-exact : (l : Plain) {f : Style} → style_of_plain l ≡ some f → ExactStyle f
unfolding style_of_plain bits
leaf-exact bool e = is_some (numeral-exact 0 1 (omega arith)) e
leaf-exact i8 e = is_some (integers8-exact signed) e
leaf-exact u8 e = is_some (integers8-exact unsigned) e
leaf-exact f32 e = is_some (integers-exact unsigned w32) e
leaf-exact f64 e = is_some (integers-exact unsigned w64) e
leaf-exact char e = is_some char-exact e
leaf-exact unit {f = f} e = absurd (none-ne-some f e)
leaf-exact (int g w) e = is_some (integers-exact g w) e
leaf-exact (fixed o g w) e = is_some (integers-exact g w) e

content-exact : (c : Content) → ExactStyle (style_of_content c)
unfolding style_of_content
content-exact text = text-exact
content-exact raw = hex-exact

pub style-exact : (k : Kind) {f : Style} → style_of k ≡ some f → ExactStyle f
unfolding style_of
style-exact (plain l) e = leaf-exact l e
style-exact (pooled c) e = is_some (content-exact c) e
style-exact option {f = f} e = absurd (none-ne-some f e)
style-exact sequence {f = f} e = absurd (none-ne-some f e)
style-exact map {f = f} e = absurd (none-ne-some f e)
style-exact struct {f = f} e = absurd (none-ne-some f e)
style-exact enum {f = f} e = absurd (none-ne-some f e)

-- a column more, where there is one
pub record Column-more (k : Kind) (o : Option Style) (os : Option (List Column)) (cs : List Column) : Type 0 where
  pub style : Style
  pub is : o ≡ some style
  pub rest : List Column
  pub others : os ≡ some rest
  pub all : cs ≡ record { kind = k; style = style } ∷ rest

pub column-more : (k : Kind) (o : Option Style) (os : Option (List Column)) (cs : List Column) → and_column k o os ≡ some cs → Column-more k o os cs
unfolding and_column
column-more k none os cs e = absurd (none-ne-some cs e)
column-more k (some f) none cs e = absurd (none-ne-some cs e)
column-more k (some f) (some rest) cs e = record { style = f; is = refl; rest = rest; others = refl; all = sym (some-injective _ cs e) }

exact-columns : (ts : Shapes) (cs : List Column) → columns ts ≡ some cs → AllExact (styles_of cs)
unfolding columns styles_of
exact-columns no_shape cs e = paths.subst (λ cs. AllExact (styles_of cs)) (some-injective _ cs e) no_field
exact-columns (more t ts) cs e =
    let m = column-more _ _ _ cs e in
    paths.subst (λ cs. AllExact (styles_of cs)) (sym m.all) (and_field (style-exact (kind_of_root t) m.is) (exact-columns ts m.rest m.others))

-- a root that has columns is a struct
pub record Rooted (t : Shape) (cs : List Column) : Type 0 where
  pub fields : Shapes
  pub is : t ≡ node struct fields
  pub columned : columns fields ≡ some cs
  pub few : leb (count fields) most_fields ≡ true

pub rooted : (t : Shape) (cs : List Column) → columns_of t ≡ some cs → Rooted t cs
unfolding columns_of given same_kind both pick decided
rooted (node (plain l) ts) cs e = absurd (none-ne-some cs e)
rooted (node (pooled c) ts) cs e = absurd (none-ne-some cs e)
rooted (node option ts) cs e = absurd (none-ne-some cs e)
rooted (node sequence ts) cs e = absurd (none-ne-some cs e)
rooted (node map ts) cs e = absurd (none-ne-some cs e)
rooted (node enum ts) cs e = absurd (none-ne-some cs e)
rooted (node struct ts) cs e =
    by-test (leb (count ts) most_fields) (λ h. record { fields = ts; is = refl; columned = rw h at e; few = h }) (λ h. absurd (none-ne-some cs (rw h at e)))

pub all-exact : (t : Shape) (cs : List Column) → columns_of t ≡ some cs → AllExact (styles_of cs)
all-exact t cs e = let r = rooted t cs e in exact-columns r.fields cs r.columned
