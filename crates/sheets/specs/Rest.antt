-- The lines that are left of a sheet. Assumes nothing.
use Rattle.std.specs.Prelude.{List}
use Rattle.sheets.specs.declared.lines.Lines.{Lines}
use Rattle.sheets.specs.Lines.{Line, lines_of}

-- The lines of what is left.
abbrev pub lines_left : Lines → List Line
lines_left l = lines_of l.rest.now
