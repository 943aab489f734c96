-- The line of a step is that of no other step, and the first line that reads as no step is the one
-- that is told.
use Rattle.std.proofs.Common.{◌≡◌, ◌≢◌, ◌∙◌, sym, ap, refl, ℕ, ◌+◌, ◌%◌, ◌^◌, ◌<◌, ◌≤◌, List, [], ◌∷◌, ◌++◌, length, get_or, drop, map, append_assoc, arith}
use Rattle.std.specs.Prelude.{All, MatchOption, Option, Some, None, codes}
use Rattle.std.specs.Fmt.{decimal}
use Rattle.std.proofs.lemmas.Fmt.{decimal_by_steps, decimal_injective}
use Rattle.std.proofs.lemmas.List.{append-nil, append_cancel_left, length-append, length-map}
use Rattle.std.proofs.lemmas.List.Elements.{All-cons, All-head, All-nil, All-push, All-tail}
use Rattle.gl_replay.specs.declared.error.StepError.{StepError}
use Rattle.gl_replay.specs.declared.error.StepError.TheVariants.{Line, TooMany, Memory}
use Rattle.gl_replay.specs.declared.schedule.Step.{Step}
use Rattle.gl_replay.specs.declared.schedule.Step.TheVariants.{Take, Steal, Split, Close, Look, Raise}
use Rattle.gl_text.specs.Spaces.{IsSpaced}
use Rattle.gl_replay.specs.Schedule.{IsRefused, IsSchedule, IsStep, ReadsNot, line_of}
use Rattle.gl_text.proofs.Characters.{first_space}

-- a number is written without a space
pub spaceless : (n : ℕ) → n < 2 ^ 64 → All (λ byte. byte ≢ 32) (decimal n)
spaceless n small =
    decimal_by_steps (λ m ds. All (λ byte. byte ≢ 32) ds)
    (λ m one. All-cons (λ byte. byte ≢ 32) (48 + m) [] (λ same. omega arith) (All-nil (λ byte. byte ≢ 32)))
    (λ m ds more none. All-push (λ byte. byte ≢ 32) ds (48 + m % 10) none (λ same. omega arith)) n small

-- two workers with a space between them are written in one way
pub workers_unique : (w v x y : ℕ) → w < 2 ^ 32 → v < 2 ^ 32 → x < 2 ^ 32 → y < 2 ^ 32 → decimal w ++ 32 ∷ decimal v ≡ decimal x ++ 32 ∷ decimal y → (w ≡ x) × (v ≡ y)
workers_unique w v x y small_w small_v small_x small_y same =
    let parts = first_space (decimal w) (decimal x) (decimal v) (decimal y) (spaceless w (omega arith)) (spaceless x (omega arith)) same in
    (decimal_injective w x (omega arith) (omega arith) parts.0, decimal_injective v y (omega arith) (omega arith) parts.1)

worker_unique : (w x : ℕ) → w < 2 ^ 32 → x < 2 ^ 32 → decimal w ≡ decimal x → w ≡ x
worker_unique w x small_w small_x = decimal_injective w x (omega arith) (omega arith)

tail_same : (w v x y : ℕ) → line_of (Steal w v) ≡ line_of (Steal x y) → decimal w ++ 32 ∷ decimal v ≡ decimal x ++ 32 ∷ decimal y
tail_same w v x y same =
    let all : codes "steal " ++ (decimal w ++ 32 ∷ decimal v) ≡ codes "steal " ++ (decimal x ++ 32 ∷ decimal y) = sym (append_assoc (codes "steal ") (decimal w) (32 ∷ decimal v)) ∙ same
    ∙ append_assoc (codes "steal ") (decimal x) (32 ∷ decimal y) in
    ap (drop 6) all

abbrev letter_at : ℕ → List ℕ → ℕ
letter_at place line = get_or line place 0

-- texts with another letter at a place
differ : (place m n : ℕ) (a b : List ℕ) → letter_at place a ≡ m → letter_at place b ≡ n → a ≡ b → m ≢ n → ⊥
differ place m n a b is_m is_n same apart = apart (sym is_m ∙ ap (letter_at place) same ∙ is_n)

-- a line is that of one step
pub line_unique : (a b : Step) → IsStep a → IsStep b → line_of a ≡ line_of b → a ≡ b
line_unique (Take w) (Take x) is_a is_b same =
    let tails : decimal w ≡ decimal x = ap (drop 5) same in ap Take (worker_unique w x is_a is_b tails)
line_unique (Take w) (Steal x y) is_a is_b same = absurd (differ 0 116 115 (line_of (Take w)) (line_of (Steal x y)) refl refl same (λ e. omega arith))
line_unique (Take w) (Split x) is_a is_b same = absurd (differ 0 116 115 (line_of (Take w)) (line_of (Split x)) refl refl same (λ e. omega arith))
line_unique (Take w) (Close x) is_a is_b same = absurd (differ 0 116 99 (line_of (Take w)) (line_of (Close x)) refl refl same (λ e. omega arith))
line_unique (Take w) (Look x) is_a is_b same = absurd (differ 0 116 108 (line_of (Take w)) (line_of (Look x)) refl refl same (λ e. omega arith))
line_unique (Take w) (Raise x) is_a is_b same = absurd (differ 0 116 114 (line_of (Take w)) (line_of (Raise x)) refl refl same (λ e. omega arith))
line_unique (Steal w v) (Take x) is_a is_b same = absurd (differ 0 115 116 (line_of (Steal w v)) (line_of (Take x)) refl refl same (λ e. omega arith))
line_unique (Steal w v) (Steal x y) is_a is_b same =
    let tails : decimal w ++ 32 ∷ decimal v ≡ decimal x ++ 32 ∷ decimal y = tail_same w v x y same in
    let both = workers_unique w v x y is_a.0 is_a.1 is_b.0 is_b.1 tails in
    λ i. Steal (both.0 i) (both.1 i)
line_unique (Steal w v) (Split x) is_a is_b same = absurd (differ 1 116 112 (line_of (Steal w v)) (line_of (Split x)) refl refl same (λ e. omega arith))
line_unique (Steal w v) (Close x) is_a is_b same = absurd (differ 0 115 99 (line_of (Steal w v)) (line_of (Close x)) refl refl same (λ e. omega arith))
line_unique (Steal w v) (Look x) is_a is_b same = absurd (differ 0 115 108 (line_of (Steal w v)) (line_of (Look x)) refl refl same (λ e. omega arith))
line_unique (Steal w v) (Raise x) is_a is_b same = absurd (differ 0 115 114 (line_of (Steal w v)) (line_of (Raise x)) refl refl same (λ e. omega arith))
line_unique (Split w) (Take x) is_a is_b same = absurd (differ 0 115 116 (line_of (Split w)) (line_of (Take x)) refl refl same (λ e. omega arith))
line_unique (Split w) (Steal x y) is_a is_b same = absurd (differ 1 112 116 (line_of (Split w)) (line_of (Steal x y)) refl refl same (λ e. omega arith))
line_unique (Split w) (Split x) is_a is_b same =
    let tails : decimal w ≡ decimal x = ap (drop 6) same in ap Split (worker_unique w x is_a is_b tails)
line_unique (Split w) (Close x) is_a is_b same = absurd (differ 0 115 99 (line_of (Split w)) (line_of (Close x)) refl refl same (λ e. omega arith))
line_unique (Split w) (Look x) is_a is_b same = absurd (differ 0 115 108 (line_of (Split w)) (line_of (Look x)) refl refl same (λ e. omega arith))
line_unique (Split w) (Raise x) is_a is_b same = absurd (differ 0 115 114 (line_of (Split w)) (line_of (Raise x)) refl refl same (λ e. omega arith))
line_unique (Close w) (Take x) is_a is_b same = absurd (differ 0 99 116 (line_of (Close w)) (line_of (Take x)) refl refl same (λ e. omega arith))
line_unique (Close w) (Steal x y) is_a is_b same = absurd (differ 0 99 115 (line_of (Close w)) (line_of (Steal x y)) refl refl same (λ e. omega arith))
line_unique (Close w) (Split x) is_a is_b same = absurd (differ 0 99 115 (line_of (Close w)) (line_of (Split x)) refl refl same (λ e. omega arith))
line_unique (Close w) (Close x) is_a is_b same =
    let tails : decimal w ≡ decimal x = ap (drop 6) same in ap Close (worker_unique w x is_a is_b tails)
line_unique (Close w) (Look x) is_a is_b same = absurd (differ 0 99 108 (line_of (Close w)) (line_of (Look x)) refl refl same (λ e. omega arith))
line_unique (Close w) (Raise x) is_a is_b same = absurd (differ 0 99 114 (line_of (Close w)) (line_of (Raise x)) refl refl same (λ e. omega arith))
line_unique (Look w) (Take x) is_a is_b same = absurd (differ 0 108 116 (line_of (Look w)) (line_of (Take x)) refl refl same (λ e. omega arith))
line_unique (Look w) (Steal x y) is_a is_b same = absurd (differ 0 108 115 (line_of (Look w)) (line_of (Steal x y)) refl refl same (λ e. omega arith))
line_unique (Look w) (Split x) is_a is_b same = absurd (differ 0 108 115 (line_of (Look w)) (line_of (Split x)) refl refl same (λ e. omega arith))
line_unique (Look w) (Close x) is_a is_b same = absurd (differ 0 108 99 (line_of (Look w)) (line_of (Close x)) refl refl same (λ e. omega arith))
line_unique (Look w) (Look x) is_a is_b same =
    let tails : decimal w ≡ decimal x = ap (drop 5) same in ap Look (worker_unique w x is_a is_b tails)
line_unique (Look w) (Raise x) is_a is_b same = absurd (differ 0 108 114 (line_of (Look w)) (line_of (Raise x)) refl refl same (λ e. omega arith))
line_unique (Raise w) (Take x) is_a is_b same = absurd (differ 0 114 116 (line_of (Raise w)) (line_of (Take x)) refl refl same (λ e. omega arith))
line_unique (Raise w) (Steal x y) is_a is_b same = absurd (differ 0 114 115 (line_of (Raise w)) (line_of (Steal x y)) refl refl same (λ e. omega arith))
line_unique (Raise w) (Split x) is_a is_b same = absurd (differ 0 114 115 (line_of (Raise w)) (line_of (Split x)) refl refl same (λ e. omega arith))
line_unique (Raise w) (Close x) is_a is_b same = absurd (differ 0 114 99 (line_of (Raise w)) (line_of (Close x)) refl refl same (λ e. omega arith))
line_unique (Raise w) (Look x) is_a is_b same = absurd (differ 0 114 108 (line_of (Raise w)) (line_of (Look x)) refl refl same (λ e. omega arith))
line_unique (Raise w) (Raise x) is_a is_b same =
    let tails : decimal w ≡ decimal x = ap (drop 6) same in ap Raise (worker_unique w x is_a is_b tails)

-- where one text reads as some steps and then as none, and another way begins with more steps, it
-- doesn't
pub reads_on : (steps more : List Step) (wrong : List ℕ) (behind rest : List (List ℕ)) → All IsStep more → ReadsNot wrong → map line_of steps ++ wrong ∷ behind ≡ map line_of more ++ rest
    → length more ≤ length steps
reads_on steps [] wrong behind rest each not same = omega arith
reads_on [] (m ∷ more) wrong behind rest each not same =
    let here : wrong ≡ line_of m = cc in absurd (not m (All-head IsStep m more each) here)
reads_on (s ∷ steps) (m ∷ more) wrong behind rest each not same =
    let others : map line_of steps ++ wrong ∷ behind ≡ map line_of more ++ rest = cc in
    omega (arith, reads_on steps more wrong behind rest (All-tail IsStep m more each) not others)

-- a schedule has one list of steps
lines_unique : (steps others : List Step) → All IsStep steps → All IsStep others → map line_of steps ≡ map line_of others → steps ≡ others
lines_unique [] [] each every same = refl
lines_unique [] (o ∷ others) each every same = absurd (cc)
lines_unique (s ∷ steps) [] each every same = absurd (cc)
lines_unique (s ∷ steps) (o ∷ others) each every same =
    let here : line_of s ≡ line_of o = cc in
    let behind : map line_of steps ≡ map line_of others = cc in
    let first = line_unique s o (All-head IsStep s steps each) (All-head IsStep o others every) here in
    let rest = lines_unique steps others (All-tail IsStep s steps each) (All-tail IsStep o others every) behind in
    λ i. first i ∷ rest i

pub schedule_unique : (text : List ℕ) (steps others : List Step) → IsSchedule text steps → IsSchedule text others → steps ≡ others
schedule_unique text steps others one other = lines_unique steps others one.each other.each (sym one.lines ∙ other.lines)

-- a schedule isn't refused
pub schedule_refused : (text : List ℕ) (steps : List Step) (error : StepError) → (error ≡ Memory → ⊥) → IsSchedule text steps → IsRefused text error → ⊥
schedule_refused text steps (Line number) some one wrong =
    let lines : map line_of wrong.steps ++ wrong.wrong ∷ wrong.behind ≡ map line_of steps = sym wrong.lines ∙ one.lines in
    let most = reads_on wrong.steps steps wrong.wrong wrong.behind [] one.each wrong.reads_not (lines ∙ sym (append-nil (map line_of steps))) in
    omega (arith, most, ap length lines, length-append (map line_of wrong.steps) (wrong.wrong ∷ wrong.behind), length-map wrong.steps line_of, length-map steps line_of)
schedule_refused text steps TooMany some one many =
    let lines : map line_of many.steps ++ many.behind ≡ map line_of steps = sym many.lines ∙ one.lines in
    omega (arith, one.few, many.many, many.more, ap length lines, length-append (map line_of many.steps) many.behind, length-map many.steps line_of, length-map steps line_of)
schedule_refused text steps Memory some one refused = some refl

pub schedule_told : (text : List ℕ) (steps : List Step) (error : StepError) → IsSchedule text steps → IsRefused text error → error ≡ Memory
schedule_told text steps (Line number) one wrong = absurd (schedule_refused text steps (Line number) (λ same. cc) one wrong)
schedule_told text steps TooMany one many = absurd (schedule_refused text steps TooMany (λ same. cc) one many)
schedule_told text steps Memory one refused = refl

-- one thing is told
pub refused_unique : (text : List ℕ) (error other : StepError) → (error ≡ Memory → ⊥) → (other ≡ Memory → ⊥) → IsRefused text error → IsRefused text other → error ≡ other
refused_unique text (Line n) (Line m) some too a b =
    let lines : map line_of a.steps ++ a.wrong ∷ a.behind ≡ map line_of b.steps ++ b.wrong ∷ b.behind = sym a.lines ∙ b.lines in
    let more = reads_on a.steps b.steps a.wrong a.behind (b.wrong ∷ b.behind) b.each a.reads_not lines in
    let less = reads_on b.steps a.steps b.wrong b.behind (a.wrong ∷ a.behind) a.each b.reads_not (sym lines) in
    let same : n ≡ m = omega (arith, more, less, a.number_is, b.number_is) in
    ap Line same
refused_unique text (Line n) TooMany some too a b =
    let more = reads_on a.steps b.steps a.wrong a.behind b.behind b.each a.reads_not (sym a.lines ∙ b.lines) in
    absurd (omega (arith, more, a.number_is, a.among, b.many))
refused_unique text TooMany (Line n) some too a b =
    let more = reads_on b.steps a.steps b.wrong b.behind a.behind a.each b.reads_not (sym b.lines ∙ a.lines) in
    absurd (omega (arith, more, b.number_is, b.among, a.many))
refused_unique text TooMany TooMany some too a b = refl
refused_unique text Memory other some too a b = absurd (some refl)
refused_unique text (Line n) Memory some too a b = absurd (too refl)
refused_unique text TooMany Memory some too a b = absurd (too refl)

-- how the code reads a line

abbrev IsNoWorker : List ℕ → Type 0
IsNoWorker text = (worker : ℕ) → worker < 2 ^ 32 → text ≢ decimal worker

-- behind a front
pub worker_front : (line front rest : List ℕ) (o : Option ℕ) → line ≡ front ++ rest → MatchOption o (IsNoWorker rest) (λ worker. rest ≡ decimal worker)
    → MatchOption o ((worker : ℕ) → worker < 2 ^ 32 → line ≢ front ++ decimal worker) (λ worker. line ≡ front ++ decimal worker)
worker_front line front rest None is none = λ worker small same. none worker small (append_cancel_left front rest (decimal worker) (sym is ∙ same))
worker_front line front rest (Some worker) is some = is ∙ ap (λ (l : List ℕ). front ++ l) some

-- two workers behind a front, where what stands behind it reads otherwise
pub workers_front : (line front rest : List ℕ) (worker other : ℕ) → line ≡ front ++ rest → line ≡ front ++ decimal worker ++ 32 ∷ decimal other → rest ≡ decimal worker ++ 32 ∷ decimal other
workers_front line front rest worker other is same =
    append_cancel_left front rest (decimal worker ++ 32 ∷ decimal other) (sym is ∙ same ∙ append_assoc front (decimal worker) (32 ∷ decimal other))

pub workers_parted : (rest one another : List ℕ) (worker other : ℕ) → worker < 2 ^ 32 → IsSpaced rest one another → rest ≡ decimal worker ++ 32 ∷ decimal other
    → (one ≡ decimal worker) × (another ≡ decimal other)
workers_parted rest one another worker other small spaced same =
    first_space one (decimal worker) another (decimal other) spaced.none (spaceless worker (omega arith)) (sym spaced.is ∙ same)

pub workers_joined : (line front rest one another : List ℕ) (worker other : ℕ) → line ≡ front ++ rest → IsSpaced rest one another → one ≡ decimal worker → another ≡ decimal other
    → line ≡ front ++ decimal worker ++ 32 ∷ decimal other
workers_joined line front rest one another worker other is spaced first second =
    is ∙ ap (λ (l : List ℕ). front ++ l) (spaced.is ∙ (λ i. first i ++ 32 ∷ second i)) ∙ sym (append_assoc front (decimal worker) (32 ∷ decimal other))
