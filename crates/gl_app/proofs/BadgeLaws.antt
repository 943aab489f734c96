-- The laws of `badge` and `badgecheck`.
use Rattle.std.proofs.Common.{◌≡◌, ◌≢◌, ◌∙◌, refl, sym, ap, subst, ℕ, ◌≤◌, ◌⊎◌, inl, inr, List, length, Option, None, Some}
use Rattle.gl_badge.proofs.Proving.{badges_accepted}
use Rattle.gl_badge.specs.Proved.{IsBadgeChecked}
use Rattle.gl_desk.specs.Desk.{FilesByName}
use Rattle.gl_igc.specs.declared.recording.Recording.{Recording}
use Rattle.gl_proof.proofs.Unique.{text_unique}
use Rattle.gl_proof.specs.declared.version.Version.TheVariants.{Two}
use Rattle.gl_proof.specs.Claim.{Statement}
use Rattle.gl_proof.specs.Text.{IsTextOf}
use Rattle.gl_words.specs.Words.{BadgeWords}
use Rattle.gl_words.proofs.Unbroken.{HasUnbrokenBadge}
use Rattle.gl_answer.specs.declared.refusal.Refusal.{Refusal}
use Rattle.gl_flights.specs.BadgeFiles.{BadgeSeen, IsBadgeRead, IsBadgeSeen, badge_check_tests, badge_tests}
use Rattle.gl_answer.specs.FileTests.{AllPass, FirstFails, most_proof_bytes}
use Rattle.gl_answer.proofs.FileTests.{AreNamed, none_fails}
use Rattle.gl_flights.proofs.BadgeTests.{badge_check_decided, badge_decided}
use Rattle.gl_answer.specs.declared.status.Status.{Status}
use Rattle.gl_answer.specs.declared.status.Status.TheVariants as status
use Rattle.gl_answer.specs.Answer.{Answer, refused}
use Rattle.gl_app.specs.Badge.{IsBadge, IsBadgeBegun, IsBadgeCheck, IsBadgeFolder, IsBadgeJudged, IsBadgeSaid, IsBadgeTold, badge_check_promise, badge_promise}
use Rattle.gl_day_claims.specs.Check.{checked_answer}
use Rattle.gl_answer.specs.Texts.{IsLine}
use Rattle.gl_day_claims.proofs.CheckLaws.{checked_result}
use Rattle.gl_day_claims.proofs.DayLines.{checked_line}
use Rattle.gl_answer.proofs.ByTests.{by_tests_line, by_tests_passes, by_tests_result}
use Rattle.gl_answer.proofs.SameFiles.{one_recording, still}
use Rattle.gl_answer.proofs.Promises.{IsLawful, IsPart, done_no_refusal, some_result}

badge_named : (words : BadgeWords) → HasUnbrokenBadge words → (seen : BadgeSeen) → AreNamed (badge_tests words seen)
badge_named words named seen = (named.flight, (named.proof, (named.flight, (named.flight, tt))))

badge_check_named : (words : BadgeWords) → HasUnbrokenBadge words → (seen : BadgeSeen) → AreNamed (badge_check_tests words seen)
badge_check_named words named seen = (named.flight, (named.proof, (named.flight, (named.flight, (named.proof, (named.proof, tt))))))

-- an answer of `badge` is a result
badge_done : (words : BadgeWords) (seen : BadgeSeen) (answer : Answer) → IsBadgeTold words seen answer → answer.status ≡ status.Done
badge_done words seen answer (recording, read, said) = said.ended

begun_part : (folder : Option FilesByName) (words : BadgeWords) (text : List ℕ) → IsBadgeBegun folder words text → IsPart (badge_promise folder words) text
begun_part folder words text (answer, right, count, is) = record { answer = answer; right = right; count = count; is = is }

pub badge_lawful : (folder : Option FilesByName) (words : BadgeWords) → HasUnbrokenBadge words → IsLawful (badge_promise folder words)
badge_lawful folder words named = record {
  result = by_tests_result (IsBadgeSeen words folder) (badge_tests words) (IsBadgeTold words) (λ seen answer is. inl (badge_done words seen answer is));
  passes = by_tests_passes folder (IsBadgeSeen words) (badge_tests words) (IsBadgeTold words) (badge_decided words)
      (λ seen answer is. done_no_refusal answer.status (inl (badge_done words seen answer is)));
  line = by_tests_line (IsBadgeSeen words folder) (badge_tests words) (IsBadgeTold words) (badge_named words named) (λ seen answer is unless. absurd (unless (badge_done words seen answer is)));
  own = λ none. absurd none;
  begun = begun_part folder words;
}

judged_result : (words : BadgeWords) (seen : BadgeSeen) (answer : Answer) → IsBadgeJudged words seen answer → (answer.status ≡ status.Done) ⊎ (answer.status ≡ status.NotProved)
judged_result words seen answer (said, checked, same) = checked_result said answer same

judged_line : (words : BadgeWords) (seen : BadgeSeen) (answer : Answer) → IsBadgeJudged words seen answer → answer.status ≢ status.Done → IsLine answer.said
judged_line words seen answer (said, checked, same) unless = checked_line said answer same unless

-- what was seen where `badge` had its answer
record HasTold (before : FilesByName) (words : BadgeWords) (answer : Answer) : Type 0 where
  seen : BadgeSeen
  is : IsBadgeSeen words (Some before) seen
  passes : AllPass (badge_tests words seen)
  recording : Recording
  read : IsBadgeRead seen recording
  said : IsBadgeSaid recording answer

told_of : (before : FilesByName) (words : BadgeWords) (answer : Answer) → IsBadge (Some before) words answer → answer.status ≡ status.Done → HasTold before words answer
told_of before words answer (seen, is, inl (passes, (recording, read, said))) done =
    record { seen = seen; is = is; passes = passes; recording = recording; read = read; said = said }
told_of before words answer (seen, is, inr (refusal, fails, same)) done =
    let e : ◌≡◌ {A = Status} status.Refused status.Done = sym (ap (λ (a : Answer). a.status) same) ∙ done in
    absurd (cc)

-- what is seen in the folder with the proof
abbrev seen_with : BadgeSeen → List ℕ → BadgeSeen
seen_with seen text = record { flight = seen.flight; proof = Some text }

same_seen : (one other : BadgeSeen) → one.flight ≡ other.flight → one.proof ≡ other.proof → one ≡ other
same_seen one other flight proof =
    let made : Option (List ℕ) → Option (List ℕ) → BadgeSeen = λ a b. record { flight = a; proof = b } in
    ap (λ (a : Option (List ℕ)). made a one.proof) flight ∙ ap (λ (b : Option (List ℕ)). made other.flight b) proof

seen_is : (files : FilesByName) (words : BadgeWords) (folder : IsBadgeFolder files words) (told : HasTold folder.before words folder.answer) (seen : BadgeSeen) → IsBadgeSeen words (Some files) seen
    → seen ≡ seen_with told.seen folder.answer.appended
seen_is files words folder told seen is =
    let flight = still folder.before files words.flight words.proof told.seen.flight told.seen.proof told.is.flight told.is.proof told.passes.0 told.passes.1.0 folder.others in
    same_seen seen (seen_with told.seen folder.answer.appended) (sym is.flight ∙ flight) (sym is.proof ∙ folder.proof)

-- it passes the tests of `badgecheck`
all_pass : (words : BadgeWords) (seen : BadgeSeen) (text : List ℕ) (statements : List Statement) → AllPass (badge_tests words seen) → length text ≤ most_proof_bytes → IsTextOf Two text statements
    → AllPass (badge_check_tests words (seen_with seen text))
all_pass words seen text statements passes small is =
    let rest = passes.1.1 in
    (passes.0, (refl, (rest.0, (rest.1.0, (small, ((Two, statements, is), tt))))))

-- what is said of it
own_judged : (words : BadgeWords) (seen : BadgeSeen) (wrote : Answer) (recording : Recording) → IsBadgeRead seen recording → IsBadgeSaid recording wrote → (answer : Answer)
    → IsBadgeJudged words (seen_with seen wrote.appended) answer → answer.status ≡ status.Done
own_judged words seen wrote recording read said answer (told, (recording_too, read_too, (version, found, is_text, checked)), same) =
    let flight = one_recording seen.flight None recording_too recording read_too read in
    let claims = text_unique wrote.appended found said.statements is_text said.appended in
    let is = subst (λ (l : List Statement). IsBadgeChecked recording l told) claims (subst (λ (r : Recording). IsBadgeChecked r found told) flight checked) in
    let accepted = badges_accepted recording wrote.said said.statements told said.found is in
    ap (λ (a : Answer). a.status) (same ∙ ap checked_answer accepted.1)

own_seen : (files : FilesByName) (words : BadgeWords) (folder : IsBadgeFolder files words) (told : HasTold folder.before words folder.answer) (seen : BadgeSeen) (answer : Answer)
    → seen ≡ seen_with told.seen folder.answer.appended → (AllPass (badge_check_tests words seen) × IsBadgeJudged words seen answer)
    ⊎ ((refusal : Refusal) × FirstFails (badge_check_tests words seen) refusal × (answer ≡ refused refusal.file refusal.cause)) → answer.status ≡ status.Done
own_seen files words folder told seen answer same (inl (passes, judged)) =
    own_judged words told.seen folder.answer told.recording told.read told.said answer (subst (λ (s : BadgeSeen). IsBadgeJudged words s answer) same judged)
own_seen files words folder told seen answer same (inr (refusal, fails, is)) =
    absurd (none_fails (badge_check_tests words (seen_with told.seen folder.answer.appended)) refusal
    (badge_check_decided words (seen_with told.seen folder.answer.appended))
    (all_pass words told.seen folder.answer.appended told.said.statements told.passes folder.small told.said.appended)
    (subst (λ (s : BadgeSeen). FirstFails (badge_check_tests words s) refusal) same fails))

own_accepted : (folder : Option FilesByName) (words : BadgeWords) → (badge_check_promise folder words).ChecksOwn → (answer : Answer) → IsBadgeCheck folder words answer → answer.status ≡ status.Done
own_accepted None words own answer right = absurd own
own_accepted (Some files) words own answer (seen, is, either) =
    let told = told_of own.before words own.answer own.told own.done in
    own_seen files words own told seen answer (seen_is files words own told seen is) either

pub badge_check_lawful : (folder : Option FilesByName) (words : BadgeWords) → HasUnbrokenBadge words → IsLawful (badge_check_promise folder words)
badge_check_lawful folder words named = record {
  result = by_tests_result (IsBadgeSeen words folder) (badge_check_tests words) (IsBadgeJudged words) (λ seen answer is. some_result answer.status (judged_result words seen answer is));
  passes = by_tests_passes folder (IsBadgeSeen words) (badge_check_tests words) (IsBadgeJudged words) (badge_check_decided words)
      (λ seen answer is. done_no_refusal answer.status (judged_result words seen answer is));
  line = by_tests_line (IsBadgeSeen words folder) (badge_check_tests words) (IsBadgeJudged words) (badge_check_named words named) (judged_line words);
  own = own_accepted folder words;
  begun = λ text none. absurd none;
}
