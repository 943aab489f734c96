-- How large a file may be.
use Rattle.std.specs.Prelude.{ℕ}

-- the most bytes of any file that is read but a proof
abbrev pub most_bytes : ℕ
most_bytes = 16_777_216
