use Rattle.std.proofs.Common.{◌≡◌, ◌++◌}
use Rattle.std.specs.List.{flat_map}
use Rattle.std.specs.String.{string_bytes}
use Rattle.gl_draft.specs.Heading.{plain}
use Rattle.gl_draft.proofs.plain.push_chars.Given as goal

abbrev pub invariant-chars : goal.invariant-chars
invariant-chars l = string_bytes l.text ≡ string_bytes l.initial.text ++ flat_map plain l.yielded
