-- The claim of a proof at a place.
use Rattle.std.proofs.Common.{◌≡◌, ◌∙◌, sym, ap, ℕ, ◌+◌, ◌<◌, ◌≤◌, List, get_or, length, map, Option, None, Some, Result, Ok, Err, arith}
use Rattle.std.specs.Prelude.{IfNone, IfOk, option_map, slice_get}
use Rattle.std.proofs.lemmas.Option.{slice_get-map, slice_get-get_or}
use Rattle.gl_proof.specs.declared.claim.Claim.{Claim}
use Rattle.gl_proof.specs.Claim.{statement_of}

-- what it states
pub stated : (claims : List Claim) (at : ℕ) (claim : Claim) → at < length claims → claim ≡ get_or claims at claim → slice_get (map statement_of claims) at ≡ Some (statement_of claim)
stated claims at claim within is =
    slice_get-map statement_of claims at ∙ ap (option_map statement_of) (slice_get-get_or claims at claim within) ∙ ap (λ (c : Claim). Some (statement_of c)) (sym is)

-- it stands among the claims, whatever is said of it
pub placed : {Fault E : Type 0} (said : Result (Option Fault) E) (at count : ℕ) → at < count → IfOk said (λ fault. IfNone fault (at + 1 ≤ count))
placed (Ok None) at count within = omega arith
placed (Ok (Some fault)) at count within = tt
placed (Err error) at count within = tt
