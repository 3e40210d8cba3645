-- Files within one another.
use Rattle.std.proofs.Common.{◌≡◌, ◌<◌, ◌-◌, ℕ, zero, suc, List, [], None, refl, ap, arith}
use Rattle.convert.specs.declared.advice.Advice.{Advice}
use Rattle.convert.specs.declared.assembly.Place.{Place}
use Rattle.convert.specs.declared.includes.Entry.{Entry}
use Rattle.convert.specs.Assembly.{Parts, begun, file_put, lines_put, with_told}
use Rattle.convert.specs.Lines.{lines_of_file}

-- a file that may include others
pub deeper : (advice : Advice) (entries : List Entry) (depth : ℕ) (place : Place) (line : List ℕ) (file : ℕ)
    (text : List ℕ) (parts : Parts) → 0 < depth
    → file_put advice entries depth place line file text parts
    ≡ lines_put advice entries (file_put advice entries (depth - 1)) file 1 (lines_of_file text) [] (begun advice file text parts)
deeper advice entries zero place line file text parts some = absurd (omega (arith, some))
deeper advice entries (suc depth) place line file text parts some =
    let same : depth ≡ suc depth - 1 = omega arith in
    ap (λ (d : ℕ). lines_put advice entries (file_put advice entries d) file 1 (lines_of_file text) [] (begun advice file text parts)) same

-- one that is too deep
pub deepest : (advice : Advice) (entries : List Entry) (depth : ℕ) (place : Place) (line : List ℕ) (file : ℕ)
    (text : List ℕ) (parts : Parts) → depth ≡ 0
    → file_put advice entries depth place line file text parts
    ≡ with_told line (record { place = place; text = advice.too_deep; number = None }) parts
deepest advice entries zero place line file text parts none = refl
deepest advice entries (suc depth) place line file text parts none = absurd (omega (arith, none))
