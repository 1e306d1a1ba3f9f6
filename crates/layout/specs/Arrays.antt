-- The layout of objects that are held in an array: what the contract of `lay_out` says. No demand cites it.
use Rattle.std.specs.Prelude.{ℕ, min, List, map, length, take}
use Rattle.std.specs.List.{range_with_len}
use Rattle.files.specs.declared.arrays.Objects.{Objects}
use Rattle.files.specs.Held.{filled}
use Rattle.layout.specs.declared.Layout.{Layout}
use Rattle.layout.specs.Layout.{Piece, pieces_of, start_of, end_of}

-- the list holds no more than 400
abbrev pub counted : (objects : ℕ) → ℕ
counted objects = min objects 400

-- the pieces of those that count
unfoldable pub pieces_in : Objects → List Piece
pieces_in o = pieces_of (take (counted o.count) o.list)

-- the start of each object, then 0, and where the last guard ends
abbrev pub layout_of : List Piece → Layout
layout_of os = record { starts = filled 400 0 (map (start_of os) (range_with_len 0 (length os))); end = end_of os }
