-- Which content a call asks for.
-- Assumes nothing.
use Rattle.std.specs.Prelude.{Bool, true, false}
use Rattle.wire.specs.Shape.{Content, text, raw}

unfoldable pub content_if : (is_text : Bool) → Content
content_if true = text
content_if false = raw
