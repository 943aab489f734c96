-- What `demo` announces.
use Rattle.std.proofs.Common.{◌≡◌, ◌∙◌, sym, ap, subst, refl, ℕ, ◌≤◌, inl, inr, List, [], ◌++◌, length, Option, None, Some, arith}
use Rattle.std.specs.Option.{unwrap_or}
use Rattle.std.specs.Prelude.{IfSome, Vec}
use Rattle.std.specs.declared.alloc.Global.{Global}
use Rattle.std.proofs.lemmas.List.{get_or-map, length-map}
use Rattle.std.proofs.lemmas.List.Elements.{All-map}
use Rattle.gl_demo.specs.Day.{generated_files, named}
use Rattle.gl_desk.specs.Desk.{FilesByName, FileTakes, Told, file_of, grown_by}
use Rattle.gl_desk.specs.MemDesk.{HoldsFiles}
use Rattle.gl_proof.specs.Claim.{Statement}
use Rattle.gl_proof.specs.Text.{IsTextOf, proof_text}
use Rattle.gl_proof.specs.declared.version.Version.TheVariants.{Two}
use Rattle.gl_day.specs.Flight.{StewardRules}
use Rattle.gl_words.specs.DayWords.{DayNames}
use Rattle.gl_answer.specs.Appending.{HasGiven}
use Rattle.gl_answer.specs.declared.status.Status.TheVariants as status
use Rattle.gl_answer.specs.Answer.{Answer, saying}
use Rattle.gl_day_claims.specs.Check.{IsScoredFolder}
use Rattle.gl_app.specs.Demo.{HasJust, IsCountOf, IsDemo, claims_line, demo_names}
use Rattle.gl_day_claims.specs.Score.{IsScore}
use Rattle.gl_day_claims.proofs.Accepting.{proof_new, score_ended}
use Rattle.gl_app.proofs.DemoTask.{demo_not_refused}

-- a file as contracts see it
abbrev plain : List ℕ × Vec ℕ Global → List ℕ × List ℕ
plain file = (file.0, file.1.items)

-- a folder that holds files in the code has just these
pub just_files : (files : List (List ℕ × Vec ℕ Global)) (folder : FilesByName) → HoldsFiles files folder → HasJust (named files) folder
just_files files folder holds = record {
  each = All-map (λ (file : List ℕ × List ℕ). folder file.0 ≡ Some file.1) plain files holds.each;
  only = λ name some.
      let at = holds.only name some in
      let file : List ℕ × List ℕ = plain at.1 in
      (at.0, file, omega (arith, at.2, length-map files plain), get_or-map plain files at.0 at.1 file at.2 ∙ ap plain at.3, at.4);
}

-- what `score` was asked of
pub record ScoredThere (stewards : List StewardRules) (number : ℕ) (folder : FilesByName) (names : DayNames) (answer : Answer) : Type 0 where
  pub has : HasJust (generated_files number) folder
  pub names_are : names ≡ demo_names
  pub is : IsScore (Some folder) stewards names answer

done_so : (folder : FilesByName) (stewards : List StewardRules) (number : ℕ) (scored : Answer) → HasJust (generated_files number) folder → IsScore (Some folder) stewards demo_names scored
    → scored.status ≡ status.Done
done_so folder stewards number scored has (seen, there, inl (passes, (day, read, is))) = is.ended
done_so folder stewards number scored has (seen, there, inr (refusal, fails, same)) = absurd (demo_not_refused number folder seen refusal has there fails)

-- a `score` that was asked so ended with a sheet
pub demo_done : (stewards : List StewardRules) (number : ℕ) (folder : FilesByName) (names : DayNames) (scored : Answer) → ScoredThere stewards number folder names scored → scored.status ≡ status.Done
demo_done stewards number folder names scored there =
    done_so folder stewards number scored there.has (subst (λ (n : DayNames). IsScore (Some folder) stewards n scored) there.names_are there.is)

-- and its sheet is announced with the count of claims
announced_so : (folder : FilesByName) (stewards : List StewardRules) (number : ℕ) (scored answer : Answer) (claims : ℕ) → HasJust (generated_files number) folder
    → IsScore (Some folder) stewards demo_names scored → IsCountOf scored.appended claims → answer ≡ saying status.Done (scored.said ++ claims_line claims) → IsDemo stewards number answer
announced_so folder stewards number scored answer claims has (seen, there, inl (passes, (day, read, is))) counted says =
    (folder, has, day, (seen, there, passes, read), record { scored = scored; is = is; claims = claims; counted = counted; says = says })
announced_so folder stewards number scored answer claims has (seen, there, inr (refusal, fails, same)) counted says =
    absurd (demo_not_refused number folder seen refusal has there fails)

pub demo_announced : (stewards : List StewardRules) (number : ℕ) (folder : FilesByName) (names : DayNames) (scored answer : Answer) (claims : ℕ) → ScoredThere stewards number folder names scored
    → IsCountOf scored.appended claims → answer ≡ saying status.Done (scored.said ++ claims_line claims) → IsDemo stewards number answer
demo_announced stewards number folder names scored answer claims there counted says =
    announced_so folder stewards number scored answer claims there.has (subst (λ (n : DayNames). IsScore (Some folder) stewards n scored) there.names_are there.is) counted says

grown_new : (there : Option (List ℕ)) (text : List ℕ) (after : Option (List ℕ)) → there ≡ None → ◌≡◌ {A = Option (Option (List ℕ))} (Some after) (grown_by (Some there) text) → after ≡ Some text
grown_new None text after new grows = ap (λ (o : Option (Option (List ℕ))). unwrap_or o None) grows
grown_new (Some bytes) text after new grows = absurd (cc)

-- the proof stands in the folder
taken : (before files : FilesByName) (name text : List ℕ) (statements : List Statement) → before name ≡ None → IsTextOf Two text statements → FileTakes (Some before) (Some files) name text
    → files name ≡ Some text
taken before files name text statements new is (inl grows) = grown_new (before name) text (files name) new grows
taken before files name text statements new is (inr (none, same)) =
    let e : [] ≡ proof_text Two statements = sym none ∙ is.is in
    absurd (cc)

-- the folder behind a `score` that ended with a sheet
pub scored_folder : (most : ℕ) (x y : Told) (before files : FilesByName) (stewards : List StewardRules) (names : DayNames) (answer : Answer) → x.folder ≡ Some before → y.folder ≡ Some files
    → IsScore (Some before) stewards names answer → answer.status ≡ status.Done → HasGiven (Some names.proof) answer.appended x y
    → ((bytes : List ℕ) → files names.proof ≡ Some bytes → length bytes ≤ most) → (there : IsScoredFolder most files names) × (there.answer.appended ≡ answer.appended)
scored_folder most x y before files stewards names answer x_is y_is scored done given small =
    let ended = score_ended before stewards names answer scored done in
    let wrote = given.written.appended in
    let P : Option FilesByName → Option FilesByName → Type 0 = λ f g. FileTakes f g names.proof answer.appended in
    let takes : P (Some before) (Some files) = subst (λ f. P f (Some files)) x_is (subst (λ g. P x.folder g) y_is wrote.1) in
    let proof = taken before files names.proof answer.appended _ (proof_new before stewards names answer ended) ended.scored.appended takes in (
      record {
        before = before;
        stewards = stewards;
        answer = answer;
        scored = scored;
        done = done;
        small = small answer.appended proof;
        proof = proof;
        others = λ other differs.
            let same : ◌≡◌ {A = Option (Option (List ℕ))} (Some (files other)) (Some (before other)) = sym (ap (λ (f : Option FilesByName). file_of f other) y_is) ∙ (wrote.2 other differs).1
            ∙ ap (λ (f : Option FilesByName). file_of f other) x_is in
            ap (λ (o : Option (Option (List ℕ))). unwrap_or o None) same;
      },
      refl,
    )

-- a proof of the size that was looked up
pub small_of : (size : ℕ) (there : Option (List ℕ)) (bytes : List ℕ) → IfSome there (λ b. size ≡ length b) → there ≡ Some bytes → length bytes ≤ size
small_of size None bytes exact same = absurd (cc)
small_of size (Some other) bytes exact same =
    let e : other ≡ bytes = cc in
    subst (λ (b : List ℕ). length b ≤ size) e (omega (arith, exact))
