use Rattle.std.proofs.Common.{◌≡◌, ◌+◌, ◌*◌, [], length, map}
use Rattle.convert.specs.Assembly.{file_put, lines_put, parts_of}
use Rattle.convert.proofs.assembly.+putting.Given as goal

abbrev pub invariant-put_lines-loop-rest : goal.invariant-put_lines-loop-rest
invariant-put_lines-loop-rest l = record {
  put :
      lines_put l.advice l.entries (file_put l.advice l.entries l.depth) l.file l.number
      (map (λ line. line.now) l.rest)
      l.blocks.items (parts_of l.assembly)
      ≡ lines_put l.advice l.entries (file_put l.advice l.entries l.depth) l.file 1
      (map (λ line. line.now) l.lines) []
      (parts_of l.fn.assembly);
  count : l.number + length l.rest ≡ 1 + length l.lines;
}

abbrev pub decreases-put_lines-loop-rest : goal.decreases-put_lines-loop-rest
decreases-put_lines-loop-rest l = length l.rest

abbrev pub decreases-put_file : goal.decreases-put_file
decreases-put_file l = 5 * l.depth

abbrev pub decreases-put_include : goal.decreases-put_include
decreases-put_include l = 5 * l.depth + 1

abbrev pub decreases-put_control : goal.decreases-put_control
decreases-put_control l = 5 * l.depth + 2

abbrev pub decreases-put_line : goal.decreases-put_line
decreases-put_line l = 5 * l.depth + 3

abbrev pub decreases-put_lines : goal.decreases-put_lines
decreases-put_lines l = 5 * l.depth + 4
