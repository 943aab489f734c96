-- The lines of a proof's file, used claim by claim.
use Rattle.std.proofs.Common.{◌≡◌, ◌∙◌, refl, sym, ap, subst, inl, inr, ℕ, true, List, [], ◌∷◌, ◌++◌, map, append_assoc, append-nil, Option, None, Some, Result, Ok, Err, Vec}
use Rattle.std.specs.List.{flat_map}
use Rattle.gl_answer.specs.Halts.{AreBytes}
use Rattle.std.specs.Prelude.{All, IfErr, IfOk, IfSome, IsErrAnd, IsNone, MatchOption}
use Rattle.std.specs.declared.alloc.Global.{Global}
use Rattle.std.proofs.lemmas.Bool.{false≢true}
use Rattle.std.proofs.lemmas.List.{map-append, map_push}
use Rattle.std.proofs.lemmas.List.Concat.{flat_map-append}
use Rattle.std.proofs.lemmas.List.Elements.{All-append, All-cons, All-nil}
use Rattle.gl_answer.specs.FileLines.{HasLines}
use Rattle.gl_answer.specs.declared.file_state.FileLines.{FileLines}
use Rattle.gl_box.specs.declared.closed.Closed.{Closed}
use Rattle.gl_box.specs.declared.closed.Why.{Why}
use Rattle.gl_check.specs.File.{BrokeOff, CameSoFar, GaveAll, GaveLines, UsedClaims, UsedLines}
use Rattle.gl_desk.specs.Desk.{FilesByName}
use Rattle.gl_answer.specs.declared.halt.Halt.{Halt}
use Rattle.gl_proof.specs.Claim.{Statement, box_line, claim_lines, fix_lines}
use Rattle.gl_proof.specs.ClaimLines.{HasItsFixes, NoBoxFirst, lines_said}
use Rattle.gl_proof.specs.Line.{ClaimLine, EndLine, FixLine, HeadingLine, Line}
use Rattle.gl_proof.specs.LineReading.{last_of}
use Rattle.gl_proof.specs.LineRules.{MayCome}
use Rattle.gl_proof.specs.ProofLines.{line_said, place_after, proof_rules}
use Rattle.gl_proof.specs.declared.claim.ClaimKind.{ClaimKind}
use Rattle.gl_proof.specs.declared.version.Version.{Version}
use Rattle.gl_proof.proofs.Refused.{last-append}
use Rattle.gl_proof.specs.declared.proof_place.ProofPlace.{ProofPlace}
use Rattle.gl_proof.specs.declared.said_line.ProofLine.{ProofLine}
use Rattle.gl_proof.specs.declared.said_line.ProofLine.TheVariants.{Box, Claim, End, Fixes, Heading}

-- a box more, and its line
pub lines_on : (used : List Line) (boxes : List (List (ℕ × ℕ) × Why)) (box : List (ℕ × ℕ) × Why) → (used ++ map box_line boxes) ++ box_line box ∷ [] ≡ used ++ map box_line (boxes ++ box ∷ [])
lines_on used boxes box = append_assoc used (map box_line boxes) (box_line box ∷ []) ∙ ap (λ (l : List Line). used ++ l) (sym (map_push box_line boxes box))

-- some boxes more, and their lines
pub record AreTakenOn (Taken : List (List (ℕ × ℕ) × Why) → Type 0) (Gave : List Line → Type 0) (before : List (List (ℕ × ℕ) × Why)) (used : List Line) : Type 0 where
  pub boxes : List (List (ℕ × ℕ) × Why)
  pub taken : Taken (before ++ boxes)
  pub gave : Gave (used ++ map box_line boxes)

pub taken_on : (Taken : List (List (ℕ × ℕ) × Why) → Type 0) (Gave : List Line → Type 0) (before one two : List (List (ℕ × ℕ) × Why)) (used : List Line) → Taken ((before ++ one) ++ two)
    → Gave ((used ++ map box_line one) ++ map box_line two) → AreTakenOn Taken Gave before used
taken_on Taken Gave before one two used taken gave = record {
  boxes = one ++ two;
  taken = subst Taken (append_assoc before one two) taken;
  gave = subst Gave (append_assoc used (map box_line one) (map box_line two) ∙ ap (λ (l : List Line). used ++ l) (sym (map-append box_line one two))) gave;
}

-- a line that is of no box is ahead, or none is
pub used_on : (folder : Option FilesByName) (file : List ℕ) (most : ℕ) (used : List Line) (ahead : Option ProofLine) (lines : FileLines ProofPlace)
    → ((closed : Closed) → ahead ≡ Some (Box closed) → ⊥)
    → MatchOption ahead (GaveAll folder file most used lines) (λ line. GaveLines folder file most (used ++ line_said line ∷ []) lines) → UsedLines folder file most used ahead lines
used_on folder file most used None lines no_box gave = gave
used_on folder file most used (Some (Heading version)) lines no_box gave = (tt, gave)
used_on folder file most used (Some (Claim number kind total)) lines no_box gave = (tt, gave)
used_on folder file most used (Some (Fixes fixes)) lines no_box gave = (tt, gave)
used_on folder file most used (Some (Box closed)) lines no_box gave = absurd (no_box closed refl)
used_on folder file most used (Some End) lines no_box gave = (tt, gave)

-- an error that is handed on is as it was
pub handed_on : {A : Type 0} (P : Halt → Type 0) (result : Result A Halt) (halt : Halt) → IsErrAnd result (λ handed. handed ≡ halt) → P halt → IfErr result P
handed_on P (Ok x) halt is holds = absurd is
handed_on P (Err handed) halt is holds = subst P (sym is) holds

-- no box comes right behind the heading
no_box_behind : (heading : Line) (line : ProofLine) → MayCome proof_rules None heading → MayCome proof_rules (Some heading) (line_said line) → NoBoxFirst (line_said line ∷ [])
no_box_behind heading (Heading version) first may = tt
no_box_behind heading (Claim number kind total) first may = tt
no_box_behind heading (Fixes fixes) first may = tt
no_box_behind heading (Box closed) (version, is) may = absurd (false≢true (rw is at may.1))
no_box_behind heading End first may = tt

-- what may come behind the lines that were given
pub come_behind : (folder : Option FilesByName) (file : List ℕ) (most : ℕ) (said : List Line) (next : Option ProofLine) (lines : FileLines ProofPlace)
    → IfSome next (λ line. (text : List ℕ) (said : List Line) → HasLines proof_rules (λ last place. place ≡ place_after last) folder file most text said lines
    → MayCome proof_rules (last_of said) (line_said line)) → GaveLines folder file most said lines → IfSome next (λ line. MayCome proof_rules (last_of said) (line_said line))
come_behind folder file most said None lines come gave = tt
come_behind folder file most said (Some line) lines come gave = come gave.0 said gave.1

-- the heading came, and the line ahead or none
pub heading_came : (folder : Option FilesByName) (file : List ℕ) (most : ℕ) (heading : Line) (ahead : Option ProofLine) (lines : FileLines ProofPlace) → MayCome proof_rules None heading
    → IfSome ahead (λ line. MayCome proof_rules (Some heading) (line_said line))
    → MatchOption ahead (GaveAll folder file most (heading ∷ []) lines) (λ line. GaveLines folder file most ((heading ∷ []) ++ line_said line ∷ []) lines) → CameSoFar folder file most [] ahead lines
heading_came folder file most heading None lines (version, is) may gave =
    inr (record { version = version; named = All-nil HasItsFixes; used = subst (λ (l : Line). GaveAll folder file most (l ∷ []) lines) is gave })
heading_came folder file most heading (Some line) lines (version, is) may gave =
    inr (record {
      version = version;
      named = All-nil HasItsFixes;
      used = (
        no_box_behind heading line (version, is) may,
        subst
            (λ (l : Line). GaveLines folder file most ((l ∷ []) ++ line_said line ∷ []) lines) is gave,
      );
    })

-- the heading came, and what is read behind it tells what is ahead
pub heading_next : {X : Type 0} (folder : Option FilesByName) (file : List ℕ) (most : ℕ) (heading : Line) (result : Result (Option ProofLine) Halt) (before after : FileLines ProofPlace)
    → (X → MayCome proof_rules None heading × GaveLines folder file most (heading ∷ []) before)
    → IfOk result (λ next. (text : List ℕ) (said : List Line) → HasLines proof_rules (λ last place. place ≡ place_after last) folder file most text said before
    → MatchOption next (GaveAll folder file most said after) (λ line. GaveLines folder file most (said ++ line_said line ∷ []) after))
    → IfOk result (λ next. IfSome next (λ line. (text : List ℕ) (said : List Line) → HasLines proof_rules (λ last place. place ≡ place_after last) folder file most text said before
    → MayCome proof_rules (last_of said) (line_said line))) → IfOk result (λ ahead. X → CameSoFar folder file most [] ahead after)
heading_next folder file most heading (Ok next) before after came read comes = λ x.
    let gave = (came x).1 in
    heading_came folder file most heading next after (came x).0 (come_behind folder file most (heading ∷ []) next before comes gave) (read gave.0 (heading ∷ []) gave.1)
heading_next folder file most heading (Err halt) before after came read comes = tt

-- or stops the command
pub halted_next : {X : Type 0} (folder : Option FilesByName) (file : List ℕ) (most : ℕ) (said : List Line) (result : Result (Option ProofLine) Halt) (before : FileLines ProofPlace)
    → (X → GaveLines folder file most said before)
    → IfErr result (λ halt. (text : List ℕ) (said : List Line) → HasLines proof_rules (λ last place. place ≡ place_after last) folder file most text said before → AreBytes folder file most (Err halt))
    → IfErr result (λ halt. X → AreBytes folder file most (Err halt))
halted_next folder file most said (Ok next) before gave halted = tt
halted_next folder file most said (Err halt) before gave halted = λ x. halted (gave x).0 said (gave x).1

-- no heading came
pub none_came : (folder : Option FilesByName) (file : List ℕ) (most : ℕ) (lines : FileLines ProofPlace) → GaveAll folder file most [] lines → CameSoFar folder file most [] None lines
none_came folder file most lines all = inl (record { given = []; all = all; unended = λ same. cc }, refl)

last_more : (lines : List Line) (line : Line) → last_of (lines ++ line ∷ []) ≡ Some line
last_more [] line = refl
last_more (first ∷ lines) line = ap Some (last-append first lines (line ∷ []))

-- the line behind that of a claim with a total is that of its fixes
pub fixes_come : (number : List ℕ) (kind : ClaimKind) (total : ℕ) (line : ProofLine) → MayCome proof_rules (Some (ClaimLine number kind (Some total))) (line_said line)
    → ((fixes : Vec ℕ Global) → Some line ≡ Some (Fixes fixes) → ⊥) → ⊥
fixes_come number kind total (Heading version) may none = false≢true may.1
fixes_come number kind total (Claim n k t) may none = false≢true may.1
fixes_come number kind total (Fixes fixes) may none = none fixes refl
fixes_come number kind total (Box closed) may none = false≢true may.1
fixes_come number kind total End may none = false≢true may.1

-- where no fixes come the text breaks off
pub broke_off : (folder : Option FilesByName) (file : List ℕ) (most : ℕ) (used : List Line) (number : List ℕ) (kind : ClaimKind) (total : Option ℕ) (next : Option ProofLine)
    (lines : FileLines ProofPlace)
    → (IsNone total → ⊥) → IfSome next (λ line. MayCome proof_rules (last_of (used ++ ClaimLine number kind total ∷ [])) (line_said line)) → ((fixes : Vec ℕ Global) → next ≡ Some (Fixes fixes) → ⊥)
    → MatchOption next (GaveAll folder file most (used ++ ClaimLine number kind total ∷ []) lines)
    (λ line. GaveLines folder file most ((used ++ ClaimLine number kind total ∷ []) ++ line_said line ∷ []) lines)
    → BrokeOff folder file most lines
broke_off folder file most used number kind total None lines some may none gave =
    record { given = used ++ ClaimLine number kind total ∷ []; all = gave; unended = λ same. let e = sym (last_more used (ClaimLine number kind total)) ∙ same in cc }
broke_off folder file most used number kind None (Some line) lines some may none gave = absurd (some refl)
broke_off folder file most used number kind (Some total) (Some line) lines some may none gave =
    absurd (fixes_come number kind total line (rw (last_more used (ClaimLine number kind (Some total))) at may) none)

-- the line of fixes came, or the text breaks off
pub fixes_read : (folder : Option FilesByName) (file : List ℕ) (most : ℕ) (used : List Line) (number : List ℕ) (kind : ClaimKind) (total : Option ℕ) (t : ℕ) (next : Option ProofLine)
    (found : Option (Vec ℕ Global))
    (lines : FileLines ProofPlace) → total ≡ Some t → MatchOption found ((fixes : Vec ℕ Global) → next ≡ Some (Fixes fixes) → ⊥) (λ fixes. next ≡ Some (Fixes fixes))
    → IfSome next (λ line. MayCome proof_rules (last_of (used ++ ClaimLine number kind total ∷ [])) (line_said line))
    → MatchOption next (GaveAll folder file most (used ++ ClaimLine number kind total ∷ []) lines)
    (λ line. GaveLines folder file most ((used ++ ClaimLine number kind total ∷ []) ++ line_said line ∷ []) lines)
    → MatchOption found (BrokeOff folder file most lines) (λ fixes. GaveLines folder file most ((used ++ ClaimLine number kind total ∷ []) ++ fix_lines total fixes.items) lines)
fixes_read folder file most used number kind None t next found lines is which may gave = absurd (cc)
fixes_read folder file most used number kind (Some total) t next None lines is which may gave =
    broke_off folder file most used number kind (Some total) next lines (λ none. cc) may which gave
fixes_read folder file most used number kind (Some total) t next (Some fixes) lines is which may gave =
    let front = used ++ ClaimLine number kind (Some total) ∷ [] in
    subst (λ (o : Option ProofLine). MatchOption o (GaveAll folder file most front lines) (λ line. GaveLines folder file most (front ++ line_said line ∷ []) lines)) which gave

-- there is a total, so nothing is said of fixes without one
pub if_named : (total : Option ℕ) (t : ℕ) (found : Option (Vec ℕ Global)) → total ≡ Some t → IfSome found (λ fixes. IsNone total → fixes.items ≡ [])
if_named total t None is = tt
if_named None t (Some fixes) is = absurd (cc)
if_named (Some total) t (Some fixes) is = λ none. absurd (cc)

-- the line of a claim is ahead
pub claim_ahead : (folder : Option FilesByName) (file : List ℕ) (most : ℕ) (said : List Statement) (number : List ℕ) (kind : ClaimKind) (total : Option ℕ) (ahead : Option ProofLine)
    (lines : FileLines ProofPlace)
    → ahead ≡ Some (Claim number kind total) → CameSoFar folder file most said ahead lines
    → (version : Version) × All HasItsFixes said × GaveLines folder file most (lines_said version said [] ++ ClaimLine number kind total ∷ []) lines
claim_ahead folder file most said number kind total ahead lines is (inl (broke, none)) =
    let e : ◌≡◌ {A = Option ProofLine} None (Some (Claim number kind total)) = sym none ∙ is in absurd (cc)
claim_ahead folder file most said number kind total ahead lines is (inr used) =
    (used.version, used.named, (subst (λ (o : Option ProofLine). UsedLines folder file most (lines_said used.version said []) o lines) is used.used).1)

-- the lines of a claim more
lines_more : (version : Version) (said : List Statement) (s : Statement)
    → ((lines_said version said [] ++ ClaimLine s.number s.kind s.total ∷ []) ++ fix_lines s.total s.fixes) ++ map box_line s.boxes ≡ lines_said version (said ++ s ∷ []) []
lines_more version said s =
    let used = lines_said version said [] in
    let front = ClaimLine s.number s.kind s.total ∷ [] in
    let fixes = fix_lines s.total s.fixes in
    let boxes = map box_line s.boxes in
    let claims = flat_map claim_lines said in
    let all : (claims ++ []) ++ (claim_lines s) ≡ flat_map claim_lines (said ++ s ∷ []) ++ [] =
    ap (λ (l : List Line). l ++ claim_lines s) (append-nil claims) ∙ ap (λ (l : List Line). claims ++ l) (sym (append-nil (claim_lines s))) ∙ sym (flat_map-append claim_lines said (s ∷ []))
    ∙ sym (append-nil (flat_map claim_lines (said ++ s ∷ []))) in
    append_assoc (used ++ front) fixes boxes ∙ append_assoc used front (fixes ++ boxes) ∙ ap (λ (l : List Line). HeadingLine version ∷ l) all

-- a claim more came
pub claim_came : (folder : Option FilesByName) (file : List ℕ) (most : ℕ) (version : Version) (said : List Statement) (s : Statement) (ahead : Option ProofLine) (lines : FileLines ProofPlace)
    → All HasItsFixes said → HasItsFixes s
    → UsedLines folder file most (((lines_said version said [] ++ ClaimLine s.number s.kind s.total ∷ []) ++ fix_lines s.total s.fixes) ++ map box_line s.boxes) ahead lines
    → CameSoFar folder file most (said ++ s ∷ []) ahead lines
claim_came folder file most version said s ahead lines named has used =
    inr (record {
      version = version;
      named = All-append HasItsFixes said (s ∷ []) named (All-cons HasItsFixes s [] has (All-nil HasItsFixes));
      used = subst (λ (l : List Line). UsedLines folder file most l ahead lines) (lines_more version said s) used;
    })

-- there are fixes only where there is a total
pub has_fixes : (total : Option ℕ) (fixes : List ℕ) → (IsNone total → fixes ≡ []) → MatchOption total (fixes ≡ []) (λ _. Unit {0})
has_fixes None fixes none = none refl
has_fixes (Some total) fixes none = tt

-- a line more came
pub one_more : (folder : Option FilesByName) (file : List ℕ) (most : ℕ) (used more : List Line) (line : ProofLine) (next : Option ProofLine) (lines : FileLines ProofPlace) → next ≡ Some line
    → MatchOption next (GaveAll folder file most (used ++ more) lines) (λ line. GaveLines folder file most ((used ++ more) ++ line_said line ∷ []) lines)
    → (x : List Line) × GaveLines folder file most (used ++ x) lines
one_more folder file most used more line next lines is gave =
    let came = subst (λ (o : Option ProofLine). MatchOption o (GaveAll folder file most (used ++ more) lines)
    (λ line. GaveLines folder file most ((used ++ more) ++ line_said line ∷ []) lines)) is gave in
    (more ++ line_said line ∷ [], subst (λ (l : List Line). GaveLines folder file most l lines) (append_assoc used more (line_said line ∷ [])) came)

-- or none did
pub all_given : (folder : Option FilesByName) (file : List ℕ) (most : ℕ) (used : List Line) (next : Option ProofLine) (lines : FileLines ProofPlace) → next ≡ None
    → MatchOption next (GaveAll folder file most used lines) (λ line. GaveLines folder file most (used ++ line_said line ∷ []) lines) → GaveAll folder file most used lines
all_given folder file most used next lines is gave =
    subst (λ (o : Option ProofLine). MatchOption o (GaveAll folder file most used lines) (λ line. GaveLines folder file most (used ++ line_said line ∷ []) lines)) is gave
