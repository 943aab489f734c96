-- The laws of `near` and `nearcheck`.
use Rattle.std.proofs.Common.{◌≡◌, ◌≢◌, ◌∙◌, refl, sym, ap, subst, ℕ, ◌≤◌, ◌⊎◌, inl, inr, true, List, length, Option, None, Some}
use Rattle.std.specs.Prelude.{IsSomeAnd}
use Rattle.gl_desk.specs.Desk.{FilesByName}
use Rattle.gl_igc.specs.declared.recording.Recording.{Recording}
use Rattle.gl_near.proofs.Judged.{certificate_yes}
use Rattle.gl_near.proofs.Reading.{text_unique}
use Rattle.gl_near.specs.Line.{IsTextOf}
use Rattle.gl_near.specs.Pairing.{Pairing}
use Rattle.gl_near.specs.Verdict.{IsVerdict}
use Rattle.gl_near.specs.declared.answer.NearVerdict.{NearVerdict}
use Rattle.gl_near.specs.declared.answer.NearVerdict.TheVariants.{Yes, Pair, Total, Extra, Place, Cell, Open}
use Rattle.gl_near.specs.declared.found.NearBest.{NearBest}
use Rattle.gl_near.specs.declared.found.NearWhy.{NearWhy}
use Rattle.gl_words.specs.Words.{NearWords}
use Rattle.gl_text.proofs.Forms.{is_unbroken}
use Rattle.gl_words.proofs.Unbroken.{HasUnbrokenNear}
use Rattle.gl_answer.specs.declared.refusal.Refusal.{Refusal}
use Rattle.gl_answer.specs.FileTests.{AllPass, FirstFails, IsRecordingOf, most_proof_bytes}
use Rattle.gl_flights.specs.NearFiles.{AreNearRead, IsNearSeen, NearSeen, near_check_tests, near_tests}
use Rattle.gl_answer.proofs.FileTests.{AreNamed, none_fails}
use Rattle.gl_answer.proofs.SameFiles.{one_recording, still}
use Rattle.gl_answer.specs.declared.status.Status.{Status}
use Rattle.gl_answer.specs.declared.status.Status.TheVariants as status
use Rattle.gl_answer.specs.Answer.{Answer, refused}
use Rattle.gl_flights.specs.Near.{IsNear, IsNearBegun, IsNearCheck, IsNearChecked, IsNearFolder, IsNearFound, IsNearestSaid, box_of_verdict, near_check_promise, near_promise, pairs_of, verdict_answer, word_of_verdict}
use Rattle.gl_answer.specs.Texts.{IsLine, wrong_line}
use Rattle.gl_flights.proofs.NearTests.{near_check_decided, near_decided}
use Rattle.gl_answer.proofs.ByTests.{by_tests_line, by_tests_passes, by_tests_result}
use Rattle.gl_answer.proofs.LineTexts.{wrong_is_line}
use Rattle.gl_answer.proofs.Promises.{IsLawful, IsPart, done_no_refusal, some_result}

near_named : (words : NearWords) → HasUnbrokenNear words → (seen : NearSeen) → AreNamed (near_tests words seen)
near_named words named seen = (named.flight, (named.other, (named.proof, (named.flight, (named.flight, (named.other, (named.other, tt)))))))

near_check_named : (words : NearWords) → HasUnbrokenNear words → (seen : NearSeen) → AreNamed (near_check_tests words seen)
near_check_named words named seen = (named.flight, (named.other, (named.proof, (named.flight, (named.flight, (named.other, (named.other, (named.proof, (named.proof, tt)))))))))

-- an answer of `near` is a result
near_done : (words : NearWords) (seen : NearSeen) (answer : Answer) → IsNearFound words seen answer → answer.status ≡ status.Done
near_done words seen answer (read, are, nearest) = nearest.ended

begun_part : (folder : Option FilesByName) (words : NearWords) (text : List ℕ) → IsNearBegun folder words text → IsPart (near_promise folder words) text
begun_part folder words text (answer, right, count, is) = record { answer = answer; right = right; count = count; is = is }

pub near_lawful : (folder : Option FilesByName) (words : NearWords) → HasUnbrokenNear words → IsLawful (near_promise folder words)
near_lawful folder words named = record {
  result = by_tests_result (IsNearSeen words folder) (near_tests words) (IsNearFound words) (λ seen answer is. inl (near_done words seen answer is));
  passes = by_tests_passes folder (IsNearSeen words) (near_tests words) (IsNearFound words) (near_decided words) (λ seen answer is. done_no_refusal answer.status (inl (near_done words seen answer is)));
  line = by_tests_line (IsNearSeen words folder) (near_tests words) (IsNearFound words) (near_named words named) (λ seen answer is unless. absurd (unless (near_done words seen answer is)));
  own = λ none. absurd none;
  begun = begun_part folder words;
}

-- what is said of a verdict
verdict_result : (verdict : NearVerdict) (answer : Answer) → answer ≡ verdict_answer verdict → (answer.status ≡ status.Done) ⊎ (answer.status ≡ status.NotProved)
verdict_result Yes answer same = inl (ap (λ (a : Answer). a.status) same)
verdict_result Pair answer same = inr (ap (λ (a : Answer). a.status) same)
verdict_result Total answer same = inr (ap (λ (a : Answer). a.status) same)
verdict_result (Extra number) answer same = inr (ap (λ (a : Answer). a.status) same)
verdict_result (Place number) answer same = inr (ap (λ (a : Answer). a.status) same)
verdict_result (Cell number) answer same = inr (ap (λ (a : Answer). a.status) same)
verdict_result Open answer same = inr (ap (λ (a : Answer). a.status) same)

word_unbroken : (verdict : NearVerdict) → is_unbroken (word_of_verdict verdict) ≡ true
word_unbroken Yes = refl
word_unbroken Pair = refl
word_unbroken Total = refl
word_unbroken (Extra number) = refl
word_unbroken (Place number) = refl
word_unbroken (Cell number) = refl
word_unbroken Open = refl

told_line : (verdict : NearVerdict) (answer : Answer) → answer.said ≡ wrong_line 1 (word_of_verdict verdict) (box_of_verdict verdict) → IsLine answer.said
told_line verdict answer same = subst IsLine (sym same) (wrong_is_line 1 (word_of_verdict verdict) (box_of_verdict verdict) (word_unbroken verdict))

verdict_line : (verdict : NearVerdict) (answer : Answer) → answer ≡ verdict_answer verdict → answer.status ≢ status.Done → IsLine answer.said
verdict_line Yes answer same unless = absurd (unless (ap (λ (a : Answer). a.status) same))
verdict_line Pair answer same unless = told_line Pair answer (ap (λ (a : Answer). a.said) same)
verdict_line Total answer same unless = told_line Total answer (ap (λ (a : Answer). a.said) same)
verdict_line (Extra number) answer same unless = told_line (Extra number) answer (ap (λ (a : Answer). a.said) same)
verdict_line (Place number) answer same unless = told_line (Place number) answer (ap (λ (a : Answer). a.said) same)
verdict_line (Cell number) answer same unless = told_line (Cell number) answer (ap (λ (a : Answer). a.said) same)
verdict_line Open answer same unless = told_line Open answer (ap (λ (a : Answer). a.said) same)

checked_result : (words : NearWords) (seen : NearSeen) (answer : Answer) → IsNearChecked words seen answer → (answer.status ≡ status.Done) ⊎ (answer.status ≡ status.NotProved)
checked_result words seen answer (verdict, said, same) = verdict_result verdict answer same

checked_line : (words : NearWords) (seen : NearSeen) (answer : Answer) → IsNearChecked words seen answer → answer.status ≢ status.Done → IsLine answer.said
checked_line words seen answer (verdict, said, same) unless = verdict_line verdict answer same unless

-- what was seen where `near` had its answer
record HasFound (before : FilesByName) (words : NearWords) (answer : Answer) : Type 0 where
  seen : NearSeen
  is : IsNearSeen words (Some before) seen
  passes : AllPass (near_tests words seen)
  read : Recording × Recording
  are : AreNearRead seen read
  nearest : IsNearestSaid (pairs_of read words.seconds) answer

found_of : (before : FilesByName) (words : NearWords) (answer : Answer) → IsNear (Some before) words answer → answer.status ≡ status.Done → HasFound before words answer
found_of before words answer (seen, is, inl (passes, (read, are, nearest))) done =
    record { seen = seen; is = is; passes = passes; read = read; are = are; nearest = nearest }
found_of before words answer (seen, is, inr (refusal, fails, same)) done =
    let e : ◌≡◌ {A = Status} status.Refused status.Done = sym (ap (λ (a : Answer). a.status) same) ∙ done in
    absurd (cc)

-- what is seen in the folder with the proof
abbrev seen_with : NearSeen → List ℕ → NearSeen
seen_with seen text = record { flight = seen.flight; other = seen.other; proof = Some text }

same_seen : (one other : NearSeen) → one.flight ≡ other.flight → one.other ≡ other.other → one.proof ≡ other.proof → one ≡ other
same_seen one other flight second proof =
    let made : Option (List ℕ) → Option (List ℕ) → Option (List ℕ) → NearSeen = λ a b c. record { flight = a; other = b; proof = c } in
    ap (λ (a : Option (List ℕ)). made a one.other one.proof) flight
    ∙ ap (λ (b : Option (List ℕ)). made other.flight b one.proof) second
    ∙ ap (λ (c : Option (List ℕ)). made other.flight other.other c) proof

seen_is : (files : FilesByName) (words : NearWords) (folder : IsNearFolder files words) (found : HasFound folder.before words folder.answer) (seen : NearSeen) → IsNearSeen words (Some files) seen
    → seen ≡ seen_with found.seen folder.answer.appended
seen_is files words folder found seen is =
    let flight = still folder.before files words.flight words.proof found.seen.flight found.seen.proof found.is.flight found.is.proof found.passes.0 found.passes.1.1.0 folder.others in
    let other = still folder.before files words.other words.proof found.seen.other found.seen.proof found.is.other found.is.proof found.passes.1.0 found.passes.1.1.0 folder.others in
    same_seen seen (seen_with found.seen folder.answer.appended) (sym is.flight ∙ flight) (sym is.other ∙ other) (sym is.proof ∙ folder.proof)

-- it passes the tests of `nearcheck`
all_pass : (words : NearWords) (seen : NearSeen) (text : List ℕ) (best : Option NearBest) (boxes : List (List (ℕ × ℕ) × NearWhy)) → AllPass (near_tests words seen) → length text ≤ most_proof_bytes
    → IsTextOf text best boxes → AllPass (near_check_tests words (seen_with seen text))
all_pass words seen text best boxes passes small is =
    let rest = passes.1.1.1 in
    (passes.0, (passes.1.0, (refl, (rest.0, (rest.1.0, (rest.1.1.0, (rest.1.1.1.0, (small, ((best, boxes, is), tt)))))))))

same_pairs : (seen : NearSeen) (text : List ℕ) (seconds : ℕ) (one other : Recording × Recording) → AreNearRead seen one → AreNearRead (seen_with seen text) other
    → pairs_of other seconds ≡ pairs_of one seconds
same_pairs seen text seconds one other are also =
    let first = one_recording seen.flight None other.0 one.0 also.flight are.flight in
    let second = one_recording seen.other (Some one.0.date) other.1 one.1
    (subst (λ (r : Recording). IsSomeAnd seen.other (λ text. IsRecordingOf (Some r.date) text other.1)) first also.other) are.other in
    cc

-- its verdict
own_verdict : (words : NearWords) (seen : NearSeen) (wrote : Answer) (read : Recording × Recording) → AreNearRead seen read → IsNearestSaid (pairs_of read words.seconds) wrote → (answer : Answer)
    → IsNearChecked words (seen_with seen wrote.appended) answer → answer.status ≡ status.Done
own_verdict words seen wrote read are nearest answer (verdict, (also, are_too, (best, boxes, of, checked)), same) =
    let pairs = same_pairs seen wrote.appended words.seconds read also are are_too in
    let claim = text_unique wrote.appended best nearest.best boxes nearest.boxes of nearest.appended in
    let is : IsVerdict (pairs_of read words.seconds) nearest.best nearest.boxes verdict =
    subst (λ (boxes : List (List (ℕ × ℕ) × NearWhy)). IsVerdict (pairs_of read words.seconds) nearest.best boxes verdict) claim.1
    (subst (λ (best : Option NearBest). IsVerdict (pairs_of read words.seconds) best boxes verdict) claim.0
    (subst (λ (p : Pairing). IsVerdict p best boxes verdict) pairs checked)) in
    let yes = certificate_yes (pairs_of read words.seconds) nearest.best nearest.boxes verdict is nearest.certificate in
    ap (λ (a : Answer). a.status) (same ∙ ap verdict_answer yes)

own_seen : (files : FilesByName) (words : NearWords) (folder : IsNearFolder files words) (found : HasFound folder.before words folder.answer) (seen : NearSeen) (answer : Answer)
    → seen ≡ seen_with found.seen folder.answer.appended → (AllPass (near_check_tests words seen) × IsNearChecked words seen answer)
    ⊎ ((refusal : Refusal) × FirstFails (near_check_tests words seen) refusal × (answer ≡ refused refusal.file refusal.cause)) → answer.status ≡ status.Done
own_seen files words folder found seen answer same (inl (passes, checked)) =
    own_verdict words found.seen folder.answer found.read found.are found.nearest answer (subst (λ (s : NearSeen). IsNearChecked words s answer) same checked)
own_seen files words folder found seen answer same (inr (refusal, fails, is)) =
    absurd (none_fails (near_check_tests words (seen_with found.seen folder.answer.appended)) refusal
    (near_check_decided words (seen_with found.seen folder.answer.appended))
    (all_pass words found.seen folder.answer.appended found.nearest.best found.nearest.boxes found.passes folder.small found.nearest.appended)
    (subst (λ (s : NearSeen). FirstFails (near_check_tests words s) refusal) same fails))

own_accepted : (folder : Option FilesByName) (words : NearWords) → (near_check_promise folder words).ChecksOwn → (answer : Answer) → IsNearCheck folder words answer → answer.status ≡ status.Done
own_accepted None words own answer right = absurd own
own_accepted (Some files) words own answer (seen, is, either) =
    let found = found_of own.before words own.answer own.found own.done in
    own_seen files words own found seen answer (seen_is files words own found seen is) either

pub near_check_lawful : (folder : Option FilesByName) (words : NearWords) → HasUnbrokenNear words → IsLawful (near_check_promise folder words)
near_check_lawful folder words named = record {
  result = by_tests_result (IsNearSeen words folder) (near_check_tests words) (IsNearChecked words) (λ seen answer is. some_result answer.status (checked_result words seen answer is));
  passes = by_tests_passes folder (IsNearSeen words) (near_check_tests words) (IsNearChecked words) (near_check_decided words) (λ seen answer is. done_no_refusal answer.status (checked_result words seen answer is));
  line = by_tests_line (IsNearSeen words folder) (near_check_tests words) (IsNearChecked words) (near_check_named words named) (checked_line words);
  own = own_accepted folder words;
  begun = λ text none. absurd none;
}
