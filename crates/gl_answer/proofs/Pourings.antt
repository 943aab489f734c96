-- What is known of a file that was read in pieces.
use Rattle.std.proofs.Common.{◌≡◌, refl, sym, subst, ap, ℕ, ℤ, Option, None, Some, Err, List}
use Rattle.gl_desk.specs.Desk.{FilesByName, IsLongerThan}
use Rattle.gl_desk.specs.declared.error.ReadError.{ReadError}
use Rattle.gl_desk.specs.declared.error.ReadError.TheVariants as reading
use Rattle.gl_answer.specs.declared.halt.Halt.{Halt}
use Rattle.gl_answer.specs.declared.halt.Halt.TheVariants.{Refused, Stopped}
use Rattle.gl_answer.specs.Halts.{AreBytes, IsUnread}
use Rattle.gl_answer.specs.Code.Pouring.{day_tag}

-- a day is known by its tag
pub day_of_tag : (a b : Option ℤ) → day_tag a ≡ day_tag b → a ≡ b
day_of_tag None None same = refl
day_of_tag None (Some b) same = absurd (cc)
day_of_tag (Some a) None same = absurd (cc)
day_of_tag (Some a) (Some b) same = let days : a ≡ b = cc in ap Some days

-- why a file wasn't read
pub unread_proof : (folder : Option FilesByName) (file : List ℕ) (most : ℕ) (error : ReadError) (halt : Halt) → (error ≡ reading.TooLarge → IsLongerThan most folder file) → IsUnread file error halt
    → AreBytes folder file most (Err halt)
unread_proof folder file most reading.TooLarge (Refused refusal) longer is = (longer refl, is)
unread_proof folder file most reading.TooLarge (Stopped stop) longer is = tt
unread_proof folder file most reading.Fault halt longer is = subst (λ (h : Halt). AreBytes folder file most (Err h)) (sym is) tt
unread_proof folder file most reading.Memory halt longer is = subst (λ (h : Halt). AreBytes folder file most (Err h)) (sym is) tt
