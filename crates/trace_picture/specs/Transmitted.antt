-- The SVG of a picture's parts.
use Rattle.std.specs.Prelude.{ℕ, List, ◌++◌, codes, decimal, string_bytes}
use Rattle.std.specs.List.{flat_map}
use Rattle.trace_picture.specs.Escapes.{escaped}
use Rattle.trace_picture.specs.declared.row.Arrow.{Arrow}
use Rattle.trace_picture.specs.declared.row.Arrow.TheVariants as arrow
use Rattle.trace_picture.specs.declared.row.Mark.{Mark}
use Rattle.trace_picture.specs.declared.row.Position.{Position}
use Rattle.trace_picture.specs.declared.row.Position.TheVariants as index
use Rattle.trace_picture.specs.declared.row.Label.{Label}
use Rattle.trace_picture.specs.declared.row.Row.{Row}

-- The class of an arrow, and where it begins: at the caller (96), the client (320), the network (560 to 596)
-- or the server core (836).
abbrev pub arrow_head : Arrow → List ℕ
arrow_head arrow.Called = codes "c\" d=\"M 96"
arrow_head arrow.Sent = codes "a\" d=\"M 320"
arrow_head arrow.SentLost = codes "x\" d=\"M 320"
arrow_head arrow.Processed = codes "a\" d=\"M 560"
arrow_head arrow.Reached = codes "a\" d=\"M 596"
arrow_head arrow.Replied = codes "a\" d=\"M 836"
arrow_head arrow.ReplyLost = codes "x\" d=\"M 836"

-- Where an arrow ends. The arrow of lost bytes ends between two lifelines.
abbrev pub arrow_back : Arrow → List ℕ
arrow_back arrow.Called = codes " H 318"
arrow_back arrow.Sent = codes " H 558"
arrow_back arrow.SentLost = codes " H 520"
arrow_back arrow.Processed = codes " H 322"
arrow_back arrow.Reached = codes " H 834"
arrow_back arrow.Replied = codes " H 598"
arrow_back arrow.ReplyLost = codes " H 636"

unfoldable pub mark_text : Mark → List ℕ
mark_text m = codes "<path class=\"" ++ arrow_head m.arrow ++ codes " " ++ decimal m.at ++ arrow_back m.arrow
    ++ codes "\"/>\n"

-- The class of a label, and its horizontal position.
abbrev pub index_head : Position → List ℕ
index_head index.Number = codes "e d\" x=\"20"
index_head index.Time = codes "e d\" x=\"88"
index_head index.Beside = codes "e\" x=\"312"
index_head index.BesideMore = codes "e d\" x=\"312"
index_head index.Near = codes "m\" x=\"440"
index_head index.NearMore = codes "m d\" x=\"440"
index_head index.Far = codes "m\" x=\"716"
index_head index.FarMore = codes "m d\" x=\"716"
index_head index.Client = codes "m w\" x=\"320"
index_head index.Desk = codes "e w\" x=\"872"

-- The beginning of a label.
unfoldable pub index_text : Position → ℕ → List ℕ
index_text p at = codes "<text class=\"" ++ index_head p ++ codes "\" y=\"" ++ decimal at ++ codes "\">"

-- A label, with its text escaped.
unfoldable pub label_text : Label → List ℕ
label_text l = index_text l.index l.at ++ escaped (string_bytes l.text) ++ codes "</text>\n"

-- The row of an event line: the line and its result, escaped, as the title of a group; its arrows; its
-- labels.
unfoldable pub row_text : Row → List ℕ
row_text row = codes "<g><title>" ++ escaped (string_bytes row.line) ++ codes "\n" ++ escaped (string_bytes row.answer)
    ++ codes "</title>\n" ++ flat_map mark_text row.marks.items ++ flat_map label_text row.labels.items
    ++ codes "</g>\n"
