-- A text has one reading: it runs through one list of lines, and at most one refusal is told of it.
use Rattle.std.proofs.Common.{◌≡◌, ◌∙◌, sym, ap, refl, subst, ℕ, ◌+◌, inl, inr, true, List, [], ◌∷◌, ◌++◌, length, get_or, append_assoc, arith}
use Rattle.std.specs.Prelude.{min}
use Rattle.std.proofs.lemmas.Bool.{false≢true}
use Rattle.std.proofs.lemmas.List.{append-nil, append_cancel_left, get_or_at, length-append}
use Rattle.std.proofs.lemmas.List.Concat.{flat_map-append}
use Rattle.gl_proof.specs.declared.error.ProofError.{ProofError}
use Rattle.gl_proof.specs.declared.error.ProofError.TheVariants.{Heading, Line as WrongLine, Cut, Memory}
use Rattle.gl_proof.specs.Grammar.{Grammar, ended_line, spelled_lines}
use Rattle.gl_proof.specs.Code.Grammar.{IsPlain}
use Rattle.gl_proof.specs.Misfit.{IsMisfit, OrMemory}
use Rattle.gl_proof.specs.LineRefusal.{Follow, HasLine, IsCut, IsFirstWrong, IsHeadless, IsRefusal, NoneFollows, RunsThrough, last_line}

pub follow_append : {L : Type 0} (grammar : Grammar L) (last : L) (a b : List L) → Follow grammar last a → Follow grammar (last_line last a) b → Follow grammar last (a ++ b)
follow_append grammar last [] b front back = back
follow_append grammar last (l ∷ ls) b front back = (front.0, front.1, follow_append grammar l ls b front.2 back)

pub last-append : {L : Type 0} (last : L) (a b : List L) → last_line last (a ++ b) ≡ last_line (last_line last a) b
last-append last [] b = refl
last-append last (l ∷ ls) b = last-append l ls b

-- a line more
pub runs_more : {L : Type 0} (grammar : Grammar L) (text : List ℕ) (lines : List L) (rest : List ℕ) (line : L) (more : List ℕ) → RunsThrough grammar text lines rest
    → rest ≡ ended_line grammar line ++ more → grammar.IsLine line → grammar.may_follow (last_line grammar.heading lines) line ≡ true → RunsThrough grammar text (lines ++ line ∷ []) more
runs_more grammar text lines rest line more runs front is may =
    let all = spelled_lines grammar (grammar.heading ∷ lines) in
    let added : spelled_lines grammar (grammar.heading ∷ (lines ++ line ∷ [])) ≡ all ++ ended_line grammar line =
    flat_map-append (ended_line grammar) (grammar.heading ∷ lines) (line ∷ []) ∙ ap (λ (l : List ℕ). all ++ l) (append-nil (ended_line grammar line)) in
    record {
      is = runs.is ∙ ap (λ (l : List ℕ). all ++ l) front ∙ sym (append_assoc all (ended_line grammar line) more) ∙ ap (λ (l : List ℕ). l ++ more) (sym added);
      follow = follow_append grammar grammar.heading lines (line ∷ []) runs.follow (is, may, tt);
    }

pub told_on : (told line count more : ℕ) → told ≡ min (line + more) 4_294_967_295 → line ≡ min count 4_294_967_295 → told ≡ min (count + more) 4_294_967_295
told_on told line count more is counted = omega arith

pub or_weaker : (error : ProofError) (P Q : Type 0) → (P → Q) → OrMemory error P → OrMemory error Q
or_weaker Heading P Q to fault = to fault
or_weaker (WrongLine told) P Q to fault = to fault
or_weaker Cut P Q to fault = to fault
or_weaker Memory P Q to fault = fault

spelled_on : {L : Type 0} (grammar : Grammar L) (line : L) (lines : List L) (r : List ℕ) → spelled_lines grammar (line ∷ lines) ++ r ≡ ended_line grammar line ++ (spelled_lines grammar lines ++ r)
spelled_on grammar line lines r = append_assoc (ended_line grammar line) (spelled_lines grammar lines) r

-- two runs behind which no further line may stand are one
pub stuck_unique : {L : Type 0} (grammar : Grammar L) → IsPlain grammar → (last : L) (us vs : List L) (r q : List ℕ) → Follow grammar last us → Follow grammar last vs
    → NoneFollows grammar (last_line last us) r → NoneFollows grammar (last_line last vs) q → spelled_lines grammar us ++ r ≡ spelled_lines grammar vs ++ q → (us ≡ vs) × (r ≡ q)
stuck_unique grammar plain last [] [] r q follow_us follow_vs none_us none_vs same = (refl, same)
stuck_unique grammar plain last [] (v ∷ vs) r q follow_us follow_vs none_us none_vs same =
    absurd (none_us v (spelled_lines grammar vs ++ q) follow_vs.0 follow_vs.1 (same ∙ spelled_on grammar v vs q))
stuck_unique grammar plain last (u ∷ us) [] r q follow_us follow_vs none_us none_vs same =
    absurd (none_vs u (spelled_lines grammar us ++ r) follow_us.0 follow_us.1 (sym same ∙ spelled_on grammar u us r))
stuck_unique {L} grammar plain last (u ∷ us) (v ∷ vs) r q follow_us follow_vs none_us none_vs same =
    let one = plain.once u v (spelled_lines grammar us ++ r) (spelled_lines grammar vs ++ q) follow_us.0 follow_vs.0 (sym (spelled_on grammar u us r) ∙ same ∙ spelled_on grammar v vs q) in
    let first : u ≡ v = one.0 in
    let rest = stuck_unique grammar plain u us vs r q follow_us.2 (subst (λ (l : L). Follow grammar l vs) (sym first) follow_vs.2) none_us
    (subst (λ (l : L). NoneFollows grammar (last_line l vs) q) (sym first) none_vs) one.1 in
    (λ i. first i ∷ rest.0 i, rest.1)

-- a run of a text behind which no further line may stand
pub record Stuck {L : Type 0} (grammar : Grammar L) (text : List ℕ) (lines : List L) (rest : List ℕ) : Type 0 where
  pub runs : RunsThrough grammar text lines rest
  pub none : NoneFollows grammar (last_line grammar.heading lines) rest

pub stuck_same : {L : Type 0} (grammar : Grammar L) → IsPlain grammar → (text : List ℕ) (us vs : List L) (r q : List ℕ) → Stuck grammar text us r → Stuck grammar text vs q → (us ≡ vs) × (r ≡ q)
stuck_same grammar plain text us vs r q one other =
    let head = ended_line grammar grammar.heading in
    let both : head ++ (spelled_lines grammar us ++ r) ≡ head ++ (spelled_lines grammar vs ++ q) =
    sym (spelled_on grammar grammar.heading us r) ∙ sym one.runs.is ∙ other.runs.is ∙ spelled_on grammar grammar.heading vs q in
    stuck_unique grammar plain grammar.heading us vs r q one.runs.follow other.runs.follow one.none other.none (append_cancel_left head _ _ both)

none_behind : {L : Type 0} (grammar : Grammar L) → IsPlain grammar → (last : L) (rest : List ℕ) → last ≡ grammar.last → NoneFollows grammar last rest
none_behind {L} grammar plain last rest ends line more is may text =
    false≢true (sym (plain.ends line) ∙ sym (ap (λ (l : L). grammar.may_follow l line) ends) ∙ may)

pub has_line : (front more : List ℕ) → HasLine ((front ++ 10 ∷ []) ++ more)
has_line front more =
    let regroup : (front ++ 10 ∷ []) ++ more ≡ front ++ 10 ∷ more = append_assoc front (10 ∷ []) more in
    (length front, omega (arith, ap length regroup, length-append front (10 ∷ more)), ap (λ (l : List ℕ). get_or l (length front) 10) regroup ∙ get_or_at front 10 more 10 (length front) refl)

none_broken : {L : Type 0} (grammar : Grammar L) (last : L) (rest : List ℕ) → (HasLine rest → ⊥) → NoneFollows grammar last rest
none_broken grammar last rest broken line more is may text = broken (subst HasLine (sym text) (has_line (grammar.spelling line) more))

-- a text that runs through to its last line
pub record IsFull {L : Type 0} (grammar : Grammar L) (text : List ℕ) (lines : List L) : Type 0 where
  pub runs : RunsThrough grammar text lines []
  pub ends : last_line grammar.heading lines ≡ grammar.last

pub full_stuck : {L : Type 0} (grammar : Grammar L) → IsPlain grammar → (text : List ℕ) (lines : List L) → IsFull grammar text lines → Stuck grammar text lines []
full_stuck grammar plain text lines full = record { runs = full.runs; none = none_behind grammar plain _ [] full.ends }

pub wrong_stuck : {L : Type 0} (grammar : Grammar L) → IsPlain grammar → (text : List ℕ) (number : ℕ) (wrong : IsFirstWrong grammar text number) → Stuck grammar text wrong.lines wrong.rest
wrong_stuck grammar plain text number wrong = record {
  runs = wrong.runs;
  none = elim wrong.wrong [ inl at ↦ at.1 | inr at ↦ none_behind grammar plain _ wrong.rest at.0 ];
}

pub cut_stuck : {L : Type 0} (grammar : Grammar L) (text : List ℕ) (cut : IsCut grammar text) → Stuck grammar text cut.lines cut.rest
cut_stuck grammar text cut = record { runs = cut.runs; none = none_broken grammar _ cut.rest cut.broken }

runs_headed : {L : Type 0} (grammar : Grammar L) (text : List ℕ) (lines : List L) (rest : List ℕ) → RunsThrough grammar text lines rest → IsHeadless grammar text → ⊥
runs_headed grammar text lines rest runs headless = headless (spelled_lines grammar lines ++ rest) (runs.is ∙ spelled_on grammar grammar.heading lines rest)

wrong_cut : {L : Type 0} (grammar : Grammar L) → IsPlain grammar → (text : List ℕ) (number : ℕ) → IsFirstWrong grammar text number → IsCut grammar text → ⊥
wrong_cut grammar plain text number wrong cut =
    let same = stuck_same grammar plain text wrong.lines cut.lines wrong.rest cut.rest (wrong_stuck grammar plain text number wrong) (cut_stuck grammar text cut) in
    elim wrong.wrong [
      | inl at ↦ cut.broken (subst HasLine same.1 at.0)
      | inr at ↦ cut.unended (ap (last_line grammar.heading) (sym same.0) ∙ at.0)
    ]

wrong_number : {L : Type 0} (grammar : Grammar L) → IsPlain grammar → (text : List ℕ) (m n : ℕ) → IsFirstWrong grammar text m → IsFirstWrong grammar text n → m ≡ n
wrong_number {L} grammar plain text m n one other =
    let same = stuck_same grammar plain text one.lines other.lines one.rest other.rest (wrong_stuck grammar plain text m one) (wrong_stuck grammar plain text n other) in
    one.counted ∙ ap (λ (lines : List L). length lines + 2) same.0 ∙ sym other.counted

-- one refusal is told of a text, beside want of memory
pub refused_once : {L : Type 0} (grammar : Grammar L) → IsPlain grammar → (text : List ℕ) (a b : ProofError) → (a ≡ Memory → ⊥) → (b ≡ Memory → ⊥) → IsRefusal grammar text a → IsRefusal grammar text b
    → a ≡ b
refused_once grammar plain text Memory b some_a some_b is_a is_b = absurd (some_a refl)
refused_once grammar plain text a Memory some_a some_b is_a is_b = absurd (some_b refl)
refused_once grammar plain text Heading Heading some_a some_b is_a is_b = refl
refused_once grammar plain text Heading (WrongLine m) some_a some_b is_a is_b = absurd (runs_headed grammar text is_b.1.lines is_b.1.rest is_b.1.runs is_a)
refused_once grammar plain text Heading Cut some_a some_b is_a is_b = absurd (runs_headed grammar text is_b.lines is_b.rest is_b.runs is_a)
refused_once grammar plain text (WrongLine m) Heading some_a some_b is_a is_b = absurd (runs_headed grammar text is_a.1.lines is_a.1.rest is_a.1.runs is_b)
refused_once grammar plain text (WrongLine m) (WrongLine n) some_a some_b is_a is_b =
    ap WrongLine (is_a.2 ∙ ap (λ (k : ℕ). min k 4_294_967_295) (wrong_number grammar plain text is_a.0 is_b.0 is_a.1 is_b.1) ∙ sym is_b.2)
refused_once grammar plain text (WrongLine m) Cut some_a some_b is_a is_b = absurd (wrong_cut grammar plain text is_a.0 is_a.1 is_b)
refused_once grammar plain text Cut Heading some_a some_b is_a is_b = absurd (runs_headed grammar text is_a.lines is_a.rest is_a.runs is_b)
refused_once grammar plain text Cut (WrongLine n) some_a some_b is_a is_b = absurd (wrong_cut grammar plain text is_b.0 is_b.1 is_a)
refused_once grammar plain text Cut Cut some_a some_b is_a is_b = refl

-- and none of a text that runs through to its last line
full_wrong : {L : Type 0} (grammar : Grammar L) → IsPlain grammar → (text : List ℕ) (lines : List L) (number : ℕ) → IsFull grammar text lines → IsFirstWrong grammar text number → ⊥
full_wrong grammar plain text lines number full wrong =
    let same = stuck_same grammar plain text lines wrong.lines [] wrong.rest (full_stuck grammar plain text lines full) (wrong_stuck grammar plain text number wrong) in
    elim wrong.wrong [
      | inl at ↦ let has : HasLine [] = subst HasLine (sym same.1) at.0 in absurd (omega (arith, has.1))
      | inr at ↦ at.1 (sym same.1)
    ]

full_cut : {L : Type 0} (grammar : Grammar L) → IsPlain grammar → (text : List ℕ) (lines : List L) → IsFull grammar text lines → IsCut grammar text → ⊥
full_cut grammar plain text lines full cut =
    let same = stuck_same grammar plain text lines cut.lines [] cut.rest (full_stuck grammar plain text lines full) (cut_stuck grammar text cut) in
    cut.unended (ap (last_line grammar.heading) (sym same.0) ∙ full.ends)

pub full_refused : {L : Type 0} (grammar : Grammar L) → IsPlain grammar → (text : List ℕ) (lines : List L) (error : ProofError) → IsFull grammar text lines → IsRefusal grammar text error
    → error ≡ Memory
full_refused grammar plain text lines Memory full is = refl
full_refused grammar plain text lines Heading full is = absurd (runs_headed grammar text lines [] full.runs is)
full_refused grammar plain text lines (WrongLine told) full is = absurd (full_wrong grammar plain text lines is.0 full is.1)
full_refused grammar plain text lines Cut full is = absurd (full_cut grammar plain text lines full is)

-- one list of lines is run through
pub full_unique : {L : Type 0} (grammar : Grammar L) → IsPlain grammar → (text : List ℕ) (us vs : List L) → IsFull grammar text us → IsFull grammar text vs → us ≡ vs
full_unique grammar plain text us vs one other =
    (stuck_same grammar plain text us vs [] [] (full_stuck grammar plain text us one) (full_stuck grammar plain text vs other)).0

-- where the line that comes next may not stand there
pub misfit_refused : {L : Type 0} (grammar : Grammar L) (text : List ℕ) (lines : List L) (rest : List ℕ) (number : ℕ) (error : ProofError) → RunsThrough grammar text lines rest
    → NoneFollows grammar (last_line grammar.heading lines) rest → (last_line grammar.heading lines ≡ grammar.last → ⊥) → number ≡ min (length lines + 2) 4_294_967_295 → IsMisfit rest number error
    → IsRefusal grammar text error
misfit_refused grammar text lines rest number Heading runs none unended counted misfit = absurd misfit
misfit_refused grammar text lines rest number (WrongLine told) runs none unended counted misfit =
    (length lines + 2, record { lines = lines; rest = rest; runs = runs; counted = refl; wrong = inl (misfit.0, none) }, misfit.1 ∙ counted)
misfit_refused grammar text lines rest number Cut runs none unended counted misfit =
    record { lines = lines; rest = rest; runs = runs; unended = unended; broken = misfit }
misfit_refused grammar text lines rest number Memory runs none unended counted misfit = absurd misfit

-- where a line begins behind the last one
pub after_refused : {L : Type 0} (grammar : Grammar L) (text : List ℕ) (lines : List L) (rest : List ℕ) (number told : ℕ) (after : List ℕ) → RunsThrough grammar text lines rest
    → rest ≡ ended_line grammar grammar.last ++ after → grammar.IsLine grammar.last → grammar.may_follow (last_line grammar.heading lines) grammar.last ≡ true → (after ≡ [] → ⊥)
    → number ≡ min (length lines + 2) 4_294_967_295 → told ≡ min (number + 1) 4_294_967_295 → IsRefusal grammar text (WrongLine told)
after_refused grammar text lines rest number told after runs front is may some counted is_told = (
  length lines + 2 + 1,
  record {
    lines = lines ++ grammar.last ∷ [];
    rest = after;
    runs = runs_more grammar text lines rest grammar.last after runs front is may;
    counted = omega (arith, length-append lines (grammar.last ∷ []));
    wrong = inr (last-append grammar.heading lines (grammar.last ∷ []), some);
  },
  told_on told number (length lines + 2) 1 is_told counted,
)
