-- What a reader of lines knows of its text.
use Rattle.std.proofs.Common.{◌≡◌, ◌≢◌, ◌∙◌, sym, ap, refl, subst, ℕ, zero, suc, ◌+◌, ◌-◌, ◌<◌, ◌≤◌, inl, inr, Bool, List, [], ◌∷◌, ◌++◌, length, get_or, take, drop, append_assoc, Option, Some, arith}
use Rattle.std.specs.List.{flat_map}
use Rattle.std.specs.Prelude.{min, if◌then◌else◌}
use Rattle.std.proofs.Math.ListN.{drop_of_length-le, get_or-append}
use Rattle.std.proofs.Math.Seq.{take-append_seam}
use Rattle.std.proofs.lemmas.Bool.{cases_order, ne_eqb}
use Rattle.std.proofs.lemmas.List.{append-nil, get_or-append-add, length-append, length-drop, take-append-drop, take-append-le}
use Rattle.std.proofs.lemmas.List.Concat.{flat_map-append}
use Rattle.gl_proof.specs.declared.error.ProofError.TheVariants.{Heading, Line as WrongLine, Cut}
use Rattle.gl_proof.specs.LineRefusal.{HasLine, last_line}
use Rattle.gl_proof.specs.LineRules.{IsNext, IsTextRefused, LineRules, MayCome, grammar_from}
use Rattle.gl_proof.specs.LineReading.{AreRead, IsLong, MayBegin, NoneComes, RunsTo, cut_at, fault_at, last_of}
use Rattle.gl_proof.proofs.Refused.{follow_append, has_line, last-append}

-- a line with its LF begins a text that is long enough, where it begins the text and more
front_within : (rest more line r : List ℕ) → length line + 1 ≤ length rest → rest ++ more ≡ (line ++ 10 ∷ []) ++ r → rest ≡ (line ++ 10 ∷ []) ++ drop (length (line ++ 10 ∷ [])) rest
front_within rest more line r short same =
    let whole = line ++ 10 ∷ [] in
    let count = length-append line (10 ∷ []) in
    let taken : take (length whole) rest ≡ whole = sym (take-append-le (length whole) rest more (omega (arith, count, short))) ∙ ap (take (length whole)) same ∙ take-append_seam whole r in
    sym (take-append-drop (length whole) rest) ∙ ap (λ (l : List ℕ). l ++ drop (length whole) rest) taken

-- and it is long enough where LF comes in it, and none in the line
short_of : (rest more line r : List ℕ) → HasLine rest → (HasLine line → ⊥) → rest ++ more ≡ (line ++ 10 ∷ []) ++ r → length line + 1 ≤ length rest
short_of rest more line r has unbroken same =
    let k = has.0 in
    let before : k < length line → HasLine line =
    λ below. (
      k,
      below,
      sym (get_or-append line (10 ∷ r) 10 k below) ∙ ap (λ (l : List ℕ). get_or l k 10) (sym (append_assoc line (10 ∷ []) r) ∙ sym same) ∙ get_or-append rest more 10 k has.1 ∙ has.2,
    ) in
    elim (cases_order (length line) (length rest)) [
      | inl same_length ↦ absurd (unbroken (before (omega (arith, has.1, same_length))))
      | inr apart ↦ elim apart [ inl less ↦ omega (arith, less) | inr more_than ↦ absurd (unbroken (before (omega (arith, has.1, more_than)))) ]
    ]

-- where LF comes, what can't begin a text begins none that goes on so
pub none_more : {L : Type 0} (rules : LineRules L) (last : Option L) (rest more : List ℕ) → ((line : L) → MayCome rules last line → HasLine (rules.spelling line) → ⊥) → HasLine rest
    → NoneComes rules last rest → NoneComes rules last (rest ++ more)
none_more rules last rest more unbroken has none line r next =
    let short = short_of rest more (rules.spelling line) r has (unbroken line next.0) next.1 in
    none line (drop (length (rules.spelling line ++ 10 ∷ [])) rest) (next.0, front_within rest more (rules.spelling line) r short next.1)

-- what is longer than any line has none at its front
pub none_long : {L : Type 0} (rules : LineRules L) (last : Option L) (rest more : List ℕ) → ((line : L) → MayCome rules last line → length (rules.spelling line) + 1 ≤ 1_024) → 1_024 ≤ length rest
    → (HasLine rest → ⊥) → NoneComes rules last (rest ++ more)
none_long rules last rest more short long broken line r next =
    let front = front_within rest more (rules.spelling line) r (omega (arith, short line next.0, long)) next.1 in
    broken (subst HasLine (sym front) (has_line (rules.spelling line) (drop (length (rules.spelling line ++ 10 ∷ [])) rest)))

-- LF comes in one of two parts
pub has_either : (a b : List ℕ) → HasLine (a ++ b) → (HasLine a → ⊥) → HasLine b
has_either a b has none =
    let k = has.0 in
    elim (cases_order k (length a)) [
      | inl same ↦ (0, omega (arith, has.1, same, length-append a b), sym (get_or-append-add a b 0 10) ∙ ap (λ (n : ℕ). get_or (a ++ b) n 10) (omega (arith, same)) ∙ has.2)
      | inr apart ↦ elim apart [
        | inl less ↦ absurd (none (k, less, sym (get_or-append a b 10 k less) ∙ has.2))
        | inr more ↦ (
          k - length a,
          omega (arith, has.1, more, length-append a b),
          sym (get_or-append-add a b (k - length a) 10) ∙ ap (λ (n : ℕ). get_or (a ++ b) n 10) (omega (arith, more)) ∙ has.2,
        )
      ]
    ]

pub has_more : (a b : List ℕ) → HasLine a → HasLine (a ++ b)
has_more a b has = (has.0, omega (arith, has.1, length-append a b), get_or-append a b 10 has.0 has.1 ∙ has.2)

pub has_behind : (a b : List ℕ) → HasLine b → HasLine (a ++ b)
has_behind a b has = (length a + has.0, omega (arith, has.1, length-append a b), get_or-append-add a b has.0 10 ∙ has.2)

-- more of the text
pub runs_fed : {L : Type 0} (rules : LineRules L) (text : List ℕ) (lines : List L) (rest piece : List ℕ) → RunsTo rules text lines rest → RunsTo rules (text ++ piece) lines (rest ++ piece)
runs_fed rules text lines rest piece runs = record {
  begin = runs.begin;
  is = ap (λ (l : List ℕ). l ++ piece) runs.is ∙ append_assoc (flat_map (λ line. rules.spelling line ++ 10 ∷ []) lines) rest piece;
}

pub read_fed : {L P : Type 0} (rules : LineRules L) (IsPlace : Option L → P → Type 0) (text : List ℕ) (lines : List L) (rest piece : List ℕ) (place : P) (number : ℕ)
    → AreRead rules IsPlace text lines rest place number → AreRead rules IsPlace (text ++ piece) lines (rest ++ piece) place number
read_fed rules IsPlace text lines rest piece place number are =
    record { runs = runs_fed rules text lines rest piece are.runs; is_place = are.is_place; numbered = are.numbered }

-- a line more
last_more : {L : Type 0} (lines : List L) (line : L) → last_of (lines ++ line ∷ []) ≡ Some line
last_more [] line = refl
last_more (first ∷ lines) line = ap Some (last-append first lines (line ∷ []))

begin_more : {L : Type 0} (rules : LineRules L) (lines : List L) (line : L) → MayBegin rules lines → MayCome rules (last_of lines) line → MayBegin rules (lines ++ line ∷ [])
begin_more rules [] line begin may = (may, tt)
begin_more rules (heading ∷ lines) line begin may =
    (begin.0, follow_append (grammar_from rules heading) heading lines (line ∷ []) begin.1 (may.0, may.1, tt))

pub read_more : {L P : Type 0} (rules : LineRules L) (IsPlace : Option L → P → Type 0) (text : List ℕ) (lines : List L) (rest : List ℕ) (place after : P) (number next : ℕ) (line : L) (more : List ℕ)
    → AreRead rules IsPlace text lines rest place number → IsNext rules (last_of lines) rest line more → IsPlace (Some line) after → next ≡ min (number + 1) 4_294_967_295
    → AreRead rules IsPlace text (lines ++ line ∷ []) more after next
read_more {L} rules IsPlace text lines rest place after number next line more are is is_place is_next =
    let spell : L → List ℕ = λ l. rules.spelling l ++ 10 ∷ [] in
    let all = flat_map spell lines in
    let added : flat_map spell (lines ++ line ∷ []) ≡ all ++ spell line = flat_map-append spell lines (line ∷ []) ∙ ap (λ (l : List ℕ). all ++ l) (append-nil (spell line)) in
    record {
      runs = record {
        begin = begin_more rules lines line are.runs.begin is.0;
        is = are.runs.is ∙ ap (λ (l : List ℕ). all ++ l) is.1 ∙ sym (append_assoc all (spell line) more) ∙ ap (λ (l : List ℕ). l ++ more) (sym added);
      };
      is_place = subst (λ (o : Option L). IsPlace o after) (sym (last_more lines line)) is_place;
      numbered = omega (arith, is_next, are.numbered, length-append lines (line ∷ []));
    }

-- the number tells whether a line was read
fault_later : (number : ℕ) → (number ≡ 1 → ⊥) → fault_at number ≡ WrongLine number
fault_later number other = ap (λ (b : Bool). if b then Heading else WrongLine number) (ne_eqb number 1 other)

cut_later : (number : ℕ) → (number ≡ 1 → ⊥) → cut_at number ≡ Cut
cut_later number other = ap (λ (b : Bool). if b then Heading else Cut) (ne_eqb number 1 other)

-- where a line that can't come is at the front
pub wrong_told : {L P : Type 0} (rules : LineRules L) (IsPlace : Option L → P → Type 0) (text : List ℕ) (lines : List L) (rest : List ℕ) (place : P) (number : ℕ) → AreRead rules IsPlace text lines rest place number
    → HasLine rest → NoneComes rules (last_of lines) rest → IsTextRefused rules text (fault_at number)
wrong_told {L} rules IsPlace text [] rest place number are has none =
    subst (IsTextRefused rules text) (sym (ap fault_at are.numbered)) (λ heading is r same. none heading r (is, sym are.runs.is ∙ same))
wrong_told {L} rules IsPlace text (heading ∷ lines) rest place number are has none =
    subst (IsTextRefused rules text) (sym (fault_later number (λ one. omega (arith, are.numbered, one)))) (
      heading,
      are.runs.begin.0,
      (
        length lines + 2,
        record {
          lines = lines;
          rest = rest;
          runs = record { is = are.runs.is; follow = are.runs.begin.1 };
          counted = refl;
          wrong = inl (has, λ line more is may text. none line more ((is, may), text));
        },
        omega (arith, are.numbered),
      ),
    )

Some-same : {L : Type 0} (a b : L) → Some a ≡ Some b → a ≡ b
Some-same a b same = cc

-- where something follows the end
pub after_told : {L P : Type 0} (rules : LineRules L) (IsPlace : Option L → P → Type 0) (text : List ℕ) (lines : List L) (rest : List ℕ) (place : P) (number : ℕ) → AreRead rules IsPlace text lines rest place number
    → last_of lines ≡ Some rules.last → rest ≢ [] → IsTextRefused rules text (fault_at number)
after_told {L} rules IsPlace text [] rest place number are ended some = absurd cc
after_told {L} rules IsPlace text (heading ∷ lines) rest place number are ended some =
    subst (IsTextRefused rules text) (sym (fault_later number (λ one. omega (arith, are.numbered, one)))) (
      heading,
      are.runs.begin.0,
      (
        length lines + 2,
        record {
          lines = lines;
          rest = rest;
          runs = record { is = are.runs.is; follow = are.runs.begin.1 };
          counted = refl;
          wrong = inr (Some-same (last_line heading lines) rules.last ended, some);
        },
        omega (arith, are.numbered),
      ),
    )

-- where the text ends before its end came
pub cut_told : {L P : Type 0} (rules : LineRules L) (IsPlace : Option L → P → Type 0) (text : List ℕ) (lines : List L) (rest : List ℕ) (place : P) (number : ℕ) → AreRead rules IsPlace text lines rest place number
    → (HasLine rest → ⊥) → (last_of lines ≡ Some rules.last → ⊥) → IsTextRefused rules text (cut_at number)
cut_told {L} rules IsPlace text [] rest place number are broken open_ =
    subst (IsTextRefused rules text) (sym (ap cut_at are.numbered))
    (λ heading is r same. broken (subst HasLine (sym (sym are.runs.is ∙ same)) (has_line (rules.spelling heading) r)))
cut_told {L} rules IsPlace text (heading ∷ lines) rest place number are broken open_ =
    subst (IsTextRefused rules text) (sym (cut_later number (λ one. omega (arith, are.numbered, one)))) (
      heading,
      are.runs.begin.0,
      record {
        lines = lines;
        rest = rest;
        runs = record { is = are.runs.is; follow = are.runs.begin.1 };
        unended = λ same. open_ (ap Some same);
        broken = broken;
      },
    )

-- what is fed to a reader of which no whole line came
pub long_fed : {L P : Type 0} (rules : LineRules L) (IsPlace : Option L → P → Type 0) (text : List ℕ) (lines : List L) (place : P) (number : ℕ) (piece : List ℕ) → IsLong rules IsPlace text lines place number
    → (HasLine piece → ⊥) → IsLong rules IsPlace (text ++ piece) lines place number
long_fed rules IsPlace text lines place number piece long none = record {
  rest = long.rest ++ piece;
  are = read_fed rules IsPlace text lines long.rest piece place number long.are;
  open_ = long.open_;
  long = omega (arith, long.long, length-append long.rest piece);
  broken = λ has. none (has_either long.rest piece has long.broken);
}

pub long_told : {L P : Type 0} (rules : LineRules L) (IsPlace : Option L → P → Type 0) (text : List ℕ) (lines : List L) (place : P) (number : ℕ) (piece more : List ℕ)
    → ((line : L) → MayCome rules (last_of lines) line → length (rules.spelling line) + 1 ≤ 1_024) → IsLong rules IsPlace text lines place number → HasLine piece
    → IsTextRefused rules ((text ++ piece) ++ more) (fault_at number)
long_told rules IsPlace text lines place number piece more short long has =
    subst (λ (l : List ℕ). IsTextRefused rules l (fault_at number)) (sym (append_assoc text piece more))
    (wrong_told rules IsPlace (text ++ (piece ++ more)) lines (long.rest ++ (piece ++ more)) place number (read_fed rules IsPlace text lines long.rest (piece ++ more) place number long.are)
    (has_behind long.rest (piece ++ more) (has_more piece more has)) (none_long rules (last_of lines) long.rest (piece ++ more) short long.long long.broken))

-- where a line that can't come is at the front, whatever follows
pub wrong_fed : {L P : Type 0} (rules : LineRules L) (IsPlace : Option L → P → Type 0) (text : List ℕ) (lines : List L) (rest : List ℕ) (place : P) (number : ℕ) (more : List ℕ)
    → ((line : L) → MayCome rules (last_of lines) line → HasLine (rules.spelling line) → ⊥) → AreRead rules IsPlace text lines rest place number → HasLine rest → NoneComes rules (last_of lines) rest
    → IsTextRefused rules (text ++ more) (fault_at number)
wrong_fed rules IsPlace text lines rest place number more unbroken are has none =
    wrong_told rules IsPlace (text ++ more) lines (rest ++ more) place number (read_fed rules IsPlace text lines rest more place number are) (has_more rest more has)
    (none_more rules (last_of lines) rest more unbroken has none)

pub after_fed : {L P : Type 0} (rules : LineRules L) (IsPlace : Option L → P → Type 0) (text : List ℕ) (lines : List L) (rest : List ℕ) (place : P) (number : ℕ) (more : List ℕ)
    → AreRead rules IsPlace text lines rest place number → last_of lines ≡ Some rules.last → rest ≢ [] → IsTextRefused rules (text ++ more) (fault_at number)
after_fed rules IsPlace text lines rest place number more are ended some =
    after_told rules IsPlace (text ++ more) lines (rest ++ more) place number (read_fed rules IsPlace text lines rest more place number are) ended (some_more rest more some)
  where
    some_more : (a b : List ℕ) → a ≢ [] → a ++ b ≢ []
    some_more [] b some = λ _. some refl
    some_more (x ∷ xs) b some = λ same. cc

drop_twice : {A : Type 0} (a b : ℕ) (l : List A) → drop a (drop b l) ≡ drop (b + a) l
drop_twice {A} a zero l = ap (λ (n : ℕ). drop n l) (omega arith)
drop_twice a (suc b) [] = drop_of_length-le [] {i = a} (omega arith) ∙ sym (drop_of_length-le [] {i = suc b + a} (omega arith))
drop_twice {A} a (suc b) (x ∷ l) =
    let same : suc (b + a) ≡ suc b + a = omega arith in
    drop_twice a b l ∙ ap (λ (n : ℕ). drop n (x ∷ l)) same

-- what is left of bytes of which some were read before
pub left_behind : (bytes : List ℕ) (at left : ℕ) → at ≤ length bytes → left ≤ length (drop at bytes) → drop (length (drop at bytes) - left) (drop at bytes) ≡ drop (length bytes - left) bytes
left_behind bytes at left within some =
    drop_twice (length (drop at bytes) - left) at bytes ∙ ap (λ (n : ℕ). drop n bytes) (omega (arith, within, some, length-drop at bytes))
