-- What is said of an outcome, where it is known.
use Rattle.std.proofs.Common.{◌≡◌, ℕ, Result, Ok, Err}
use Rattle.std.specs.Prelude.{IfOk, IfErr, IsErr, OnErr, OnOk}
use Rattle.gl_desk.specs.declared.error.DeskError.{DeskError}
use Rattle.gl_desk.specs.declared.system.SystemError.{SystemError}
use Rattle.gl_desk.specs.Code.Outcome.{Settles}

pub ok_has : {X E : Type 0} (outcome : Result X E) (x : X) (P : X → Type 0) → outcome ≡ Ok x → P x → IfOk outcome P
ok_has outcome x P is has = rw is has

pub ok_is_no_error : {X E : Type 0} (outcome : Result X E) (x : X) (P : E → Type 0) → outcome ≡ Ok x → IfErr outcome P
ok_is_no_error outcome x P is = rw is tt

pub error_has : {X E : Type 0} (outcome : Result X E) (error : E) (P : E → Type 0) → outcome ≡ Err error → P error → IfErr outcome P
error_has outcome error P is has = rw is has

pub error_is_not_ok : {X E : Type 0} (outcome : Result X E) (error : E) (P : X → Type 0) → outcome ≡ Err error → IfOk outcome P
error_is_not_ok outcome error P is = rw is tt

-- what is said of the system's own answer is said of what the desk answers to it
pub settled_ok : {X : Type 0} (outcome : Result X SystemError) (result : Result X DeskError) (before after : ℕ) (P : X → Type 0) → Settles outcome result before after
    → OnErr outcome (IsErr result) → IfOk outcome P → IfOk result P
settled_ok (Ok x) result before after P settles failed holds = rw settles.0 holds
settled_ok (Err error) (Ok x) before after P settles failed holds = cc
settled_ok (Err error) (Err why) before after P settles failed holds = tt

pub settled_err : {X : Type 0} (outcome : Result X SystemError) (result : Result X DeskError) (before after : ℕ) (P : Type 0) → Settles outcome result before after
    → OnErr outcome P → OnErr result P
settled_err (Ok x) result before after P settles holds = rw settles.0 tt
settled_err (Err error) (Ok x) before after P settles holds = tt
settled_err (Err error) (Err why) before after P settles holds = holds
