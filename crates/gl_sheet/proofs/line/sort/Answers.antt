use Rattle.std.proofs.Common.{rules}
use Rattle.std.specs.Ordering.{is_lt}
use Rattle.std.proofs.lemmas.List.Sorted.{IsPermutation-map, answers_always, ranks_by}
use Rattle.gl_sheet.specs.Code.Line.{line_of}
use Rattle.gl_sheet.specs.Sheet.{line_cmp}
use Rattle.gl_sheet.proofs.Standing.{line_cmp_total, mapped_sorted}
use Rattle.gl_sheet.proofs.line.sort.Goals as goal

pub returns-clause-all : goal.returns-clause-all
returns-clause-all c = IsPermutation-map line_of _ _ c.sort_unstable_by.ensures.permutation

pub returns-clause-sorted : goal.returns-clause-sorted
returns-clause-sorted c =
    mapped_sorted line_of (λ a b. is_lt (line_cmp a b)) _
    (c.sort_unstable_by.ensures.sorted (λ a b. is_lt (line_cmp (line_of a) (line_of b))) (ranks_by line_cmp_total line_of) (answers_always _ _ _ (λ f a r g h. search rules)))
