-- Volumes of a text, one more at a time.
use Rattle.std.proofs.Common.{◌≡◌, ◌∙◌, refl, sym, ap, subst, ℕ, ◌+◌, Bool, true, false, if◌then◌else◌, List, [], ◌∷◌, ◌++◌, length, Option, None, Some, append_assoc}
use Rattle.std.specs.Option.{option_or}
use Rattle.std.specs.Prelude.{MatchOption}
use Rattle.gl_airspace.specs.declared.error.AirError as code
use Rattle.gl_airspace.specs.declared.error.AirError.TheVariants as error
use Rattle.gl_airspace.specs.declared.part.Part.{Part}
use Rattle.gl_airspace.specs.declared.volume.Volume.{Volume}
use Rattle.gl_airspace.specs.Draft.{IsVolume}
use Rattle.gl_airspace.specs.Code.Volumes.{IsGathered}
use Rattle.gl_airspace.specs.Code.Going.{Fits, GoesOver, Misfits, volume_of}
use Rattle.gl_airspace.specs.Parts.{AreVolumes, Tells}
use Rattle.gl_airspace.specs.Volumes.{Reading, Refusal, begins, corners_in, first_trouble, parted, trouble}

begun_by : (is : Bool) (line : Reading) (front : List Reading) (back : List (List Reading)) (all : List Reading × List (List Reading)) → (if is then ([], front ∷ back) else (line ∷ front, back)) ≡ all
    → all.0 ≡ [] → is ≡ true
begun_by true line front back all same none = refl
begun_by false line front back all same none = cc (ap (λ (p : List Reading × List (List Reading)). p.0) same)

-- the line at the front of the lines that are left begins a volume
pub is_begun : (line : Reading) (rest : List Reading) → (parted (line ∷ rest)).0 ≡ [] → begins line ≡ true
is_begun line rest none = begun_by (begins line) line (parted rest).0 (parted rest).1 (parted (line ∷ rest)) refl none

-- and its lines are the next volume
pub next_volume : (line : Reading) (rest : List Reading) → (parted (line ∷ rest)).0 ≡ [] → (parted (line ∷ rest)).1 ≡ volume_of rest ∷ (parted rest).1
next_volume line rest none = rw (is_begun line rest none) refl

tell_memory : (refusal : Option Refusal) → Tells refusal error.Memory
tell_memory None = tt
tell_memory (Some refusal) = tt

-- what is told of a refusal is told of the first of two
pub tells_first : (one other : Option Refusal) (e : code.AirError) → Tells one e → Tells (option_or one other) e
tells_first (Some refusal) other e told = told
tells_first None other (error.Line n) told = absurd told
tells_first None other (error.TooMany n) told = absurd told
tells_first None other error.Memory told = tell_memory other

are_more : (done : List (List Reading)) (volumes : List Volume) (lines : List Reading) (volume : Volume) → AreVolumes done volumes → IsVolume lines volume
    → AreVolumes (done ++ lines ∷ []) (volumes ++ volume ∷ [])
are_more [] [] lines volume are is = (is, tt)
are_more [] (other ∷ volumes) lines volume are is = absurd are
are_more (first ∷ done) [] lines volume are is = absurd are
are_more (first ∷ done) (other ∷ volumes) lines volume are is = (are.0, are_more done volumes lines volume are.1 is)

-- one volume more was read
pub gathers : (all left : List (List Reading)) (lines : List Reading) (volumes : List Volume) (volume : Volume) → IsVolume lines volume → IsGathered all (lines ∷ left) volumes
    → IsGathered all left (volumes ++ volume ∷ [])
gathers all left lines volumes volume is gathered = record {
  done = gathered.done ++ lines ∷ [];
  parts = gathered.parts ∙ sym (append_assoc gathered.done (lines ∷ []) left);
  are = are_more gathered.done volumes lines volume gathered.are is;
}

-- the lines of a volume all fit where none was found that doesn't
pub all_fit : (text : List ℕ) (lines : List Reading) (room : ℕ) (part : Part) → part.misfit ≡ None → GoesOver text lines room part → Fits text lines room part
all_fit text lines room part none over =
    subst (λ (o : Option ℕ). MatchOption o (Fits text lines room part) (Misfits lines room part)) none over.result

-- what is left to refuse behind a volume that isn't refused
pub trouble_behind : (first volumes corners : ℕ) (lines : List Reading) (rest : List (List Reading)) → trouble first volumes corners lines ≡ None
    → first_trouble first volumes corners (lines ∷ rest) ≡ first_trouble (first + 1 + length lines) (volumes + 1) (corners + length (corners_in lines)) rest
trouble_behind first volumes corners lines rest none =
    ap (λ (o : Option Refusal). option_or o (first_trouble (first + 1 + length lines) (volumes + 1) (corners + length (corners_in lines)) rest)) none

-- what is known in front of a volume: its lines, and why it and those behind it would be refused
pub refusal_at : (refusal : Option Refusal) (first volumes corners : ℕ) (line : Reading) (rest left : List Reading) → (parted left).0 ≡ [] → left ≡ line ∷ rest
    → refusal ≡ first_trouble first volumes corners (parted left).1
    → refusal ≡ first_trouble first volumes corners (volume_of rest ∷ (parted rest).1)
refusal_at refusal first volumes corners line rest left none is same =
    let front : (parted (line ∷ rest)).0 ≡ [] = ap (λ (l : List Reading). (parted l).0) (sym is) ∙ none in
    same ∙ ap (λ (l : List Reading). first_trouble first volumes corners (parted l).1) is ∙ ap (first_trouble first volumes corners) (next_volume line rest front)

pub gathered_at : (all : List (List Reading)) (volumes : List Volume) (line : Reading) (rest left : List Reading) → (parted left).0 ≡ [] → left ≡ line ∷ rest → IsGathered all (parted left).1 volumes
    → IsGathered all (volume_of rest ∷ (parted rest).1) volumes
gathered_at all volumes line rest left none is gathered =
    let front : (parted (line ∷ rest)).0 ≡ [] = ap (λ (l : List Reading). (parted l).0) (sym is) ∙ none in
    let others : (parted left).1 ≡ volume_of rest ∷ (parted rest).1 = ap (λ (l : List Reading). (parted l).1) is ∙ next_volume line rest front in
    subst (λ (o : List (List Reading)). IsGathered all o volumes) others gathered
