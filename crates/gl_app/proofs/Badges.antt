-- How `badge` and `badgecheck` answer, and how `badge` is stopped.
use Rattle.std.proofs.Common.{◌≡◌, ◌∙◌, refl, sym, ap, subst, ℕ, ◌+◌, ◌<◌, ◌≤◌, inl, inr, List, [], ◌∷◌, ◌++◌, length, take, drop, get_or, map, append-nil, Option, None, Some, Result, Ok, Err}
use Rattle.std.specs.Prelude.{IfErr, IfOk, OnOk}
use Rattle.std.proofs.lemmas.List.{map-append, take-append-drop, take_all, take_more}
use Rattle.std.specs.List.{flat_map}
use Rattle.gl_badge.specs.Proved.{IsBadgeChecked, IsBadgeFound}
use Rattle.gl_desk.specs.Answers.{OnlyReads, stop_of}
use Rattle.gl_desk.specs.Desk.{FilesByName, Told}
use Rattle.gl_desk.specs.declared.error.DeskError.{DeskError}
use Rattle.gl_day.specs.FileChecked.{SaysOfText}
use Rattle.gl_day.specs.declared.fault.Checked.{Checked}
use Rattle.gl_day.proofs.Texts.{claim_texts-append, proof_text-parts}
use Rattle.gl_igc.specs.declared.recording.Recording.{Recording}
use Rattle.gl_proof.specs.declared.claim.Claim.{Claim}
use Rattle.gl_proof.specs.declared.version.Version.TheVariants.{Two}
use Rattle.gl_proof.specs.Claim.{Statement, claim_text, statement_of}
use Rattle.gl_proof.specs.Line.{EndLine, HeadingLine, ended}
use Rattle.gl_proof.specs.Text.{proof_text}
use Rattle.gl_words.specs.Words.{BadgeWords}
use Rattle.gl_answer.specs.declared.halt.Halt.{Halt}
use Rattle.gl_answer.specs.declared.halt.Halt.TheVariants.{Refused, Stopped}
use Rattle.gl_flights.specs.BadgeFiles.{HasTestedFlight, IsBadgeRead, IsBadgeSeen, badge_check_tests, badge_tests}
use Rattle.gl_flights.proofs.BadgeTests.{proof_tested}
use Rattle.gl_answer.specs.FileTests.{HasTested, ProofText, most_proof_bytes}
use Rattle.gl_answer.specs.ReadFiles.{HasReadFile}
use Rattle.gl_answer.specs.Halts.{halt_stop}
use Rattle.gl_answer.proofs.ReadsTwice.{reads_twice}
use Rattle.gl_day_claims.proofs.Commanded.{some_text}
use Rattle.gl_answer.specs.Appending.{HasAppended, HasAppendedPart, HasGiven}
use Rattle.gl_answer.proofs.Appended.{HasAppended-none, HasAppended-reads, HasAppended-then, HasAppendedPart-longer, HasAppendedPart-then, part_after}
use Rattle.gl_answer.specs.declared.answer.Answer as code
use Rattle.gl_answer.specs.declared.status.Status.TheVariants.{Done}
use Rattle.gl_answer.specs.Answer.{Answer, answer_of, AnswersHalt}
use Rattle.gl_app.specs.Badge.{IsBadge, IsBadgeCheck, IsBadgeProofChecked, badge_check_promise, badge_promise}
use Rattle.gl_day_claims.specs.Check.{checked_answer}
use Rattle.gl_answer.specs.Given.{HasAnswered, IsStopped}

-- the texts of claims
abbrev pub claims_text : List Claim → List ℕ
claims_text claims = flat_map claim_text (map statement_of claims)

claims_text-append : (front back : List Claim) → claims_text (front ++ back) ≡ claims_text front ++ claims_text back
claims_text-append front back =
    ap (flat_map claim_text) (map-append statement_of front back) ∙ claim_texts-append (map statement_of front) (map statement_of back)

-- a claim more
text_more : (claims : List Claim) (i : ℕ) (c : Claim) → i < length claims → c ≡ get_or claims i c → claims_text (take (i + 1) claims) ≡ claims_text (take i claims) ++ claim_text (statement_of c)
text_more claims i c below item =
    ap claims_text (take_more claims i c below ∙ ap (λ (d : Claim). take i claims ++ d ∷ []) (sym item))
    ∙ claims_text-append (take i claims) (c ∷ [])
    ∙ ap (λ (t : List ℕ). claims_text (take i claims) ++ t) (append-nil (claim_text (statement_of c)))

whole_text : (claims : List Claim) (n : ℕ) → claims_text claims ≡ claims_text (take n claims) ++ claims_text (drop n claims)
whole_text claims n = ap claims_text (sym (take-append-drop n claims)) ∙ claims_text-append (take n claims) (drop n claims)

pub none_appended : (proof : List ℕ) (claims : List Claim) (x : Told) → HasAppended proof (claims_text (take 0 claims)) x x
none_appended proof claims x = HasAppended-none proof x

pub claim_more : (proof : List ℕ) (claims : List Claim) (i : ℕ) (c : Claim) (x y z : Told) → i < length claims → c ≡ get_or claims i c → HasAppended proof (claims_text (take i claims)) x y
    → HasAppended proof (claim_text (statement_of c)) y z → HasAppended proof (claims_text (take (i + 1) claims)) x z
claim_more proof claims i c x y z below item one two =
    subst (λ (t : List ℕ). HasAppended proof t x z) (sym (text_more claims i c below item))
    (HasAppended-then proof (claims_text (take i claims)) (claim_text (statement_of c)) x y z one two)

pub claims_stopped : (proof : List ℕ) (claims : List Claim) (i : ℕ) (c : Claim) (x y z : Told) (stop : DeskError) → i < length claims → c ≡ get_or claims i c
    → HasAppended proof (claims_text (take i claims)) x y → HasAppendedPart proof (claim_text (statement_of c)) y z stop → HasAppendedPart proof (claims_text claims) x z stop
claims_stopped proof claims i c x y z stop below item one two =
    let part = HasAppendedPart-then proof (claims_text (take i claims)) (claim_text (statement_of c)) x y z stop one two in
    let front = subst (λ (t : List ℕ). HasAppendedPart proof t x z stop) (sym (text_more claims i c below item)) part in
    subst (λ (t : List ℕ). HasAppendedPart proof t x z stop) (sym (whole_text claims (i + 1)))
    (HasAppendedPart-longer proof (claims_text (take (i + 1) claims)) (claims_text (drop (i + 1) claims)) x z stop front)

pub claims_all : (proof : List ℕ) (claims : List Claim) (i : ℕ) (x y : Told) → length claims ≤ i → HasAppended proof (claims_text (take i claims)) x y → HasAppended proof (claims_text claims) x y
claims_all proof claims i x y last one =
    subst (λ (l : List Claim). HasAppended proof (claims_text l) x y) (take_all i claims last) one

-- the heading, the claims and the end make the text of a proof
parts : (heading claims end : List ℕ) (statements : List Statement) → heading ≡ ended (HeadingLine Two) → claims ≡ flat_map claim_text statements → end ≡ ended EndLine
    → proof_text Two statements ≡ heading ++ (claims ++ end)
parts heading claims end statements first middle last =
    proof_text-parts Two statements ∙ sym (λ i. first i ++ (middle i ++ last i))

pub heading_stopped : (proof heading : List ℕ) (statements : List Statement) (x y : Told) (stop : DeskError) → heading ≡ ended (HeadingLine Two) → HasAppendedPart proof heading x y stop
    → HasAppendedPart proof (proof_text Two statements) x y stop
heading_stopped proof heading statements x y stop first part =
    subst (λ (t : List ℕ). HasAppendedPart proof t x y stop) (sym (parts heading (flat_map claim_text statements) (ended EndLine) statements first refl refl))
    (HasAppendedPart-longer proof heading (flat_map claim_text statements ++ ended EndLine) x y stop part)

pub claims_part : (proof heading : List ℕ) (statements : List Statement) (x y z : Told) (stop : DeskError) → heading ≡ ended (HeadingLine Two) → HasAppended proof heading x y
    → HasAppendedPart proof (flat_map claim_text statements) y z stop → HasAppendedPart proof (proof_text Two statements) x z stop
claims_part proof heading statements x y z stop first one part =
    let claims = flat_map claim_text statements in
    subst (λ (t : List ℕ). HasAppendedPart proof t x z stop) (sym (parts heading claims (ended EndLine) statements first refl refl))
    (HasAppendedPart-then proof heading (claims ++ ended EndLine) x y z stop one (HasAppendedPart-longer proof claims (ended EndLine) y z stop part))

pub proof_appended : (proof heading end : List ℕ) (statements : List Statement) (x y z w : Told) (result : Result (Unit {0}) DeskError) → heading ≡ ended (HeadingLine Two) → end ≡ ended EndLine
    → HasAppended proof heading x y → HasAppended proof (flat_map claim_text statements) y z → OnOk result (HasAppended proof end z w) → OnOk result (HasAppended proof (proof_text Two statements) x w)
proof_appended proof heading end statements x y z w (Err stop) first last one two three = three
proof_appended proof heading end statements x y z w (Ok done) first last one two three =
    let claims = flat_map claim_text statements in
    subst (λ (t : List ℕ). HasAppended proof t x w) (sym (parts heading claims end statements first refl last))
    (HasAppended-then proof heading (claims ++ end) x y w one (HasAppended-then proof claims end y z w two three))

pub end_stopped : (proof heading end : List ℕ) (statements : List Statement) (x y z w : Told) (result : Result (Unit {0}) DeskError) → heading ≡ ended (HeadingLine Two) → end ≡ ended EndLine
    → HasAppended proof heading x y → HasAppended proof (flat_map claim_text statements) y z → IfErr result (HasAppendedPart proof end z w)
    → IfErr result (HasAppendedPart proof (proof_text Two statements) x w)
end_stopped proof heading end statements x y z w (Ok done) first last one two three = three
end_stopped proof heading end statements x y z w (Err stop) first last one two three =
    let claims = flat_map claim_text statements in
    subst (λ (t : List ℕ). HasAppendedPart proof t x w stop) (sym (parts heading claims end statements first refl last))
    (HasAppendedPart-then proof heading (claims ++ end) x y w stop one (HasAppendedPart-then proof claims end y z w stop two three))

-- a right answer of `badge`
abbrev told_answer : List ℕ → List ℕ → Answer
told_answer said proof = record { status = Done; said = said; appended = proof }

-- the answer of `badge` where its files passed
badge_is : (words : BadgeWords) (x m : Told) (recording : Recording) (said : List ℕ) (statements : List Statement) → OnlyReads None x m
    → HasTested (IsBadgeSeen words m.folder) (badge_tests words) IsBadgeRead (Ok recording) → IsBadgeFound recording said statements
    → IsBadge x.folder words (told_answer said (proof_text Two statements))
badge_is words x m recording said statements lists tested found =
    let seen = subst (λ (f : Option FilesByName). HasTested (IsBadgeSeen words f) (badge_tests words) IsBadgeRead (Ok recording)) lists.folder tested in
    (seen.0, seen.1, inl (seen.2, (recording, seen.3, record { statements = statements; found = found; ended = refl; appended = record { each = found.written; is = refl } })))

-- `badge` has its answer
pub badge_right : (words : BadgeWords) (x m y z : Told) (recording : Recording) (said : List ℕ) (claims cells : List Claim) → OnlyReads None x m
    → HasTested (IsBadgeSeen words m.folder) (badge_tests words) IsBadgeRead (Ok recording) → OnlyReads None m y → IsBadgeFound recording said (map statement_of claims) → cells ≡ claims
    → HasAppended words.proof (proof_text Two (map statement_of cells)) y z → (text : List ℕ) × IsBadge x.folder words (told_answer said text) × HasGiven (Some words.proof) text x z
badge_right words x m y z recording said claims cells lists tested reads found same appended =
    let all = reads_twice x m y lists reads in
    let proof = proof_text Two (map statement_of claims) in
    let written = subst (λ (l : List Claim). HasAppended words.proof (proof_text Two (map statement_of l)) y z) same appended in (
      proof,
      badge_is words x m recording said (map statement_of claims) lists tested found,
      record {
        written = HasAppended-then words.proof [] proof x y z (HasAppended-reads words.proof [] x x y (HasAppended-none words.proof x) all) written;
        untouched = λ none. absurd (some_text (map statement_of claims) none);
      },
    )

-- `badge` was stopped while its proof was appended
pub badge_stopped : (words : BadgeWords) (x m y z : Told) (recording : Recording) (said : List ℕ) (claims cells : List Claim) (stop : DeskError) → OnlyReads None x m
    → HasTested (IsBadgeSeen words m.folder) (badge_tests words) IsBadgeRead (Ok recording) → OnlyReads None m y → IsBadgeFound recording said (map statement_of claims) → cells ≡ claims
    → HasAppendedPart words.proof (proof_text Two (map statement_of cells)) y z stop → IsStopped (badge_promise x.folder words) x z stop
badge_stopped words x m y z recording said claims cells stop lists tested reads found same appended =
    let all = reads_twice x m y lists reads in
    let proof = proof_text Two (map statement_of claims) in
    let part = subst (λ (l : List Claim). HasAppendedPart words.proof (proof_text Two (map statement_of l)) y z stop) same appended in
    let right = badge_is words x m recording said (map statement_of claims) lists tested found in
    let after = part_after words.proof proof x y z stop all part in
    record {
      gave = inr (record {
        text = take after.count proof;
        begun = (told_answer said proof, right, after.count, refl);
        said = after.said;
        appended = after.appended;
      });
      faults = after.faults;
    }

-- `badge` refuses a file
pub badge_refused : (words : BadgeWords) (x m y : Told) (halt : Halt) (result : Result code.Answer DeskError) → OnlyReads None x m
    → HasTested (IsBadgeSeen words m.folder) (badge_tests words) IsBadgeRead (Err halt) → OnlyReads (halt_stop {X = Recording} (Err halt)) m y → AnswersHalt halt result
    → IfOk result (HasAnswered (badge_promise x.folder words) x y)
badge_refused words x m y (Refused refusal) (Ok answer) lists tested reads same =
    let all = reads_twice x m y lists reads in
    let seen = subst (λ (f : Option FilesByName). HasTested {X = Recording} (IsBadgeSeen words f) (badge_tests words) IsBadgeRead (Err (Refused refusal))) lists.folder tested in
    ([], (seen.0, seen.1, inr (refusal, seen.2, same)), record { written = HasAppended-reads words.proof [] x x y (HasAppended-none words.proof x) all; untouched = λ none. (all.folder, all.outputs) })
badge_refused words x m y (Refused refusal) (Err stop) lists tested reads same = tt
badge_refused words x m y (Stopped stop) (Ok answer) lists tested reads same = absurd same
badge_refused words x m y (Stopped stop) (Err error) lists tested reads same = tt

-- the recording passed its tests, and then this was said of the proof's file
pub badge_proof_said : (folder : Option FilesByName) (words : BadgeWords) (recording : Recording) (result : Result Checked Halt) → HasTestedFlight folder words (Ok recording)
    → HasReadFile ProofText most_proof_bytes folder words.proof (SaysOfText (IsBadgeChecked recording)) result
    → HasTested (IsBadgeSeen words folder) (badge_check_tests words) IsBadgeProofChecked result
badge_proof_said folder words recording (Ok said) tested read =
    let all = proof_tested folder words recording (Ok said) (SaysOfText (IsBadgeChecked recording)) tested read in
    (all.0, all.1, all.2, (recording, all.3.0, all.3.1))
badge_proof_said folder words recording (Err (Refused refusal)) tested read =
    proof_tested folder words recording (Err (Refused refusal)) (SaysOfText (IsBadgeChecked recording)) tested read
badge_proof_said folder words recording (Err (Stopped stop)) tested read = tt

-- or it didn't
pub flight_said : (folder : Option FilesByName) (words : BadgeWords) (halt : Halt) → HasTestedFlight folder words (Err halt)
    → HasTested {X = Checked} (IsBadgeSeen words folder) (badge_check_tests words) IsBadgeProofChecked (Err halt)
flight_said folder words (Refused refusal) tested = tested
flight_said folder words (Stopped stop) tested = tt

-- `badgecheck` has its answer
pub badge_check_right : (folder : Option FilesByName) (words : BadgeWords) (said : Checked) (answer : Answer)
    → HasTested (IsBadgeSeen words folder) (badge_check_tests words) IsBadgeProofChecked (Ok said) → answer ≡ checked_answer said → IsBadgeCheck folder words answer
badge_check_right folder words said answer (seen, is, passes, checked) same = (seen, is, inl (passes, (said, checked, same)))

-- it has given it
pub badge_checked : (words : BadgeWords) (x y : Told) (result : Result code.Answer DeskError) → IfOk result (λ answer. IsBadgeCheck x.folder words (answer_of answer)) → OnlyReads (stop_of result) x y
    → IfOk result (HasAnswered (badge_check_promise x.folder words) x y)
badge_checked words x y (Ok answer) right reads =
    ([], right, record { written = record { appended = (refl, reads.folder, reads.outputs); said = reads.said; faults = reads.faults }; untouched = λ none. (reads.folder, reads.outputs) })
badge_checked words x y (Err stop) right reads = tt
