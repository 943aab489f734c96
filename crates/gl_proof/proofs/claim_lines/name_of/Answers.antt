use Rattle.std.proofs.lemmas.Str.{IsUtf8-from_ascii}
use Rattle.gl_proof.proofs.Entrants.{is_number_parts}
use Rattle.gl_proof.proofs.claim_lines.name_of.Goals as goal
use Rattle.gl_text.proofs.Characters.{letters_ascii}

pub unreachable-requires : goal.unreachable-requires
unreachable-requires c =
    absurd (c.in_default.ensures.cases.0 (IsUtf8-from_ascii c.args.number.now (letters_ascii c.args.number.now (is_number_parts c.args.number.now c.requires).2)))
