use Rattle.std.proofs.Common.{◌≡◌, ◌+◌, length, map}
use Rattle.toml.specs.View.{view}
use Rattle.gl_task_file.specs.Keys.{each_item, first_failed}
use Rattle.gl_task_file.specs.Tests.{word_tests}
use Rattle.gl_task_file.proofs.lists.test_words.Given as goal

-- the words so far pass, and the rest decide
abbrev pub invariant-words : goal.invariant-words
invariant-words l = record {
  tests :
      first_failed (each_item word_tests 1 (map view l.values))
      ≡ first_failed (each_item word_tests (l.n + 1) (map view l.rest));
  number : l.n + length l.rest ≡ length l.values;
}

abbrev pub decreases-words : goal.decreases-words
decreases-words l = length l.rest
