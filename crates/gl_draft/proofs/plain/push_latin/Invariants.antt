use Rattle.std.proofs.Common.{◌≡◌, ◌++◌, take}
use Rattle.std.specs.List.{flat_map}
use Rattle.std.specs.String.{string_bytes}
use Rattle.gl_draft.specs.Heading.{plain}
use Rattle.gl_draft.proofs.plain.push_latin.Given as goal

abbrev pub invariant-bytes : goal.invariant-bytes
invariant-bytes l = string_bytes l.text ≡ string_bytes l.initial.text ++ flat_map plain (take l.byte-index l.bytes)
