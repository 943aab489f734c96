-- A text has one reading: at most one proof has it, and at most one refusal is told of it.
use Rattle.std.proofs.Common.{◌≡◌, ◌∙◌, sym, ap, refl, subst, ℕ, ◌^◌, ◌<◌, List, [], ◌∷◌, ◌++◌, get_or, map, append_assoc, Option, Some, None, arith}
use Rattle.std.specs.Fmt.{decimal}
use Rattle.std.specs.List.{flat_map}
use Rattle.std.proofs.Common.{Bor}
use Rattle.std.specs.Prelude.{All, IfOk, MatchOption, Result, Ok, Err, codes}
use Rattle.std.proofs.lemmas.List.{append-nil, append_cancel_left}
use Rattle.std.proofs.lemmas.List.Elements.{All-head, All-tail}
use Rattle.gl_box.specs.declared.closed.Closed.{Closed}
use Rattle.gl_box.specs.declared.closed.Why.{Why}
use Rattle.gl_box.specs.Cell.{spans_of}
use Rattle.gl_box.specs.declared.closed.Why.TheVariants.{Disordered, Shut, Bound}
use Rattle.gl_proof.specs.declared.claim.ClaimKind.{ClaimKind}
use Rattle.gl_proof.specs.declared.version.Version.{Version}
use Rattle.gl_proof.specs.declared.version.Version.TheVariants.{One, Two}
use Rattle.gl_proof.specs.declared.error.ProofError.{ProofError}
use Rattle.gl_proof.specs.declared.error.ProofError.TheVariants.{Heading, Line as WrongLine, Cut, Memory}
use Rattle.gl_proof.specs.Code.Grammar.{IsPlain}
use Rattle.gl_proof.specs.LineRefusal.{IsRefusal, RunsThrough}
use Rattle.gl_proof.specs.Words.{IsSpan, spaced, span_word, total_word}
use Rattle.gl_proof.proofs.Codes.{words_front}
use Rattle.gl_proof.proofs.Refused.{IsFull, follow_append, full_refused, full_unique, last-append, refused_once}
use Rattle.gl_proof.proofs.Words.{feed_first, no_word, number_once, span_once, total_there, total_unique}
use Rattle.gl_proof.specs.Claim.{IsStatement, Statement, box_line, claim_lines, fix_lines, spelled}
use Rattle.gl_proof.specs.Code.Fronts.{Adds, AddsBox, AreSpansAt}
use Rattle.gl_proof.specs.Line.{AreFixes, Line, HeadingLine, ClaimLine, FixLine, BoxLine, EndLine, IsLine, ended, kind_word, proof_grammar, reason_word}
use Rattle.gl_proof.specs.Refusal.{IsRefused}
use Rattle.gl_proof.specs.Text.{IsTextOf, lines_of, proof_text}
use Rattle.gl_proof.proofs.Chain.{end_follows, lines_follow}
use Rattle.gl_proof.proofs.Lines.{box_is, claim_is, entrant_unique, fix_is, kind_unique}

-- the byte with which a line begins
tag : Line → ℕ
tag (HeadingLine version) = 71
tag (ClaimLine number kind total) = 67
tag (FixLine fixes) = 70
tag (BoxLine why spans) = 66
tag EndLine = 69

tag_is : (line : Line) (r : List ℕ) → get_or (ended line ++ r) 0 0 ≡ tag line
unfolding tag
tag_is (HeadingLine One) r = refl
tag_is (HeadingLine Two) r = refl
tag_is (ClaimLine number kind total) r = refl
tag_is (FixLine fixes) r = refl
tag_is (BoxLine why spans) r = refl
tag_is EndLine r = refl

-- the byte of a version in its heading, which is the twelfth
version_byte : Version → ℕ
version_byte One = 49
version_byte Two = 50

byte_is : (v : Version) (r : List ℕ) → get_or (ended (HeadingLine v) ++ r) 11 0 ≡ version_byte v
unfolding version_byte
byte_is One r = refl
byte_is Two r = refl

versions_apart : (v w : Version) → version_byte v ≡ version_byte w → v ≡ w
unfolding version_byte
versions_apart One One same = refl
versions_apart Two Two same = refl
versions_apart v w same = absurd (omega arith)

-- one version has the heading with which a text begins
pub heading_unique : (v w : Version) (r q : List ℕ) → ended (HeadingLine v) ++ r ≡ ended (HeadingLine w) ++ q → (v ≡ w) × (r ≡ q)
heading_unique v w r q same =
    let version : v ≡ w = versions_apart v w (sym (byte_is v r) ∙ ap (λ (t : List ℕ). get_or t 11 0) same ∙ byte_is w q) in
    (version, append_cancel_left (ended (HeadingLine w)) r q (ap (λ (u : Version). ended (HeadingLine u) ++ r) (sym version) ∙ same))

pub reason_unique : (w v : Why) (r q : List ℕ) → reason_word w ++ r ≡ reason_word v ++ q → (w ≡ v) × (r ≡ q)
reason_unique Disordered Disordered r q same = (refl, append_cancel_left (codes "D") r q same)
reason_unique Shut Shut r q same = (refl, append_cancel_left (codes "S") r q same)
reason_unique Bound Bound r q same = (refl, append_cancel_left (codes "B") r q same)
reason_unique Disordered Shut r q same = let byte : 68 ≡ 83 = ap (λ (l : List ℕ). get_or l 0 0) same in absurd (omega (arith, byte))
reason_unique Disordered Bound r q same = let byte : 68 ≡ 66 = ap (λ (l : List ℕ). get_or l 0 0) same in absurd (omega (arith, byte))
reason_unique Shut Disordered r q same = let byte : 83 ≡ 68 = ap (λ (l : List ℕ). get_or l 0 0) same in absurd (omega (arith, byte))
reason_unique Shut Bound r q same = let byte : 83 ≡ 66 = ap (λ (l : List ℕ). get_or l 0 0) same in absurd (omega (arith, byte))
reason_unique Bound Disordered r q same = let byte : 66 ≡ 68 = ap (λ (l : List ℕ). get_or l 0 0) same in absurd (omega (arith, byte))
reason_unique Bound Shut r q same = let byte : 66 ≡ 83 = ap (λ (l : List ℕ). get_or l 0 0) same in absurd (omega (arith, byte))

claims_unique : (m n : List ℕ) (k j : ClaimKind) (t u : Option ℕ) (r q : List ℕ) → IsLine (ClaimLine m k t) → IsLine (ClaimLine n j u) → ended (ClaimLine m k t) ++ r ≡ ended (ClaimLine n j u) ++ q
    → (ClaimLine m k t ≡ ClaimLine n j u) × (r ≡ q)
claims_unique m n k j t u r q is_one is_other same =
    let rest : List ℕ = kind_word k ++ 32 ∷ (total_word t ++ 10 ∷ r) in
    let more : List ℕ = kind_word j ++ 32 ∷ (total_word u ++ 10 ∷ q) in
    let numbers : m ++ 32 ∷ rest ≡ n ++ 32 ∷ more = append_cancel_left (codes "CLAIM ") _ _ (sym (claim_is m k t r) ∙ same ∙ claim_is n j u q) in
    let entrant = entrant_unique (m ++ 32 ∷ rest) m n rest more (is_one.0, refl) (is_other.0, numbers) in
    let kind = kind_unique k j (total_word t ++ 10 ∷ r) (total_word u ++ 10 ∷ q) entrant.1 in
    let total = total_unique (total_word t ++ 10 ∷ r) t u r q (total_there _ t r is_one.1 refl) (total_there _ u q is_other.1 kind.1) in
    (λ i. ClaimLine (entrant.0 i) (kind.0 i) (total.0 i), total.1)

pub line_unique : (l m : Line) (r q : List ℕ) → IsLine l → IsLine m → ended l ++ r ≡ ended m ++ q → (l ≡ m) × (r ≡ q)
unfolding tag
line_unique (HeadingLine v) (HeadingLine w) r q is_l is_m same =
    let one = heading_unique v w r q same in (ap HeadingLine one.0, one.1)
line_unique EndLine EndLine r q is_l is_m same = (refl, append_cancel_left (ended EndLine) r q same)
line_unique (ClaimLine number kind total) (ClaimLine n k t) r q is_l is_m same = claims_unique number n kind k total t r q is_l is_m same
line_unique (FixLine fixes) (FixLine others) r q is_l is_m same =
    let words : spaced (map decimal fixes) ++ 10 ∷ r ≡ spaced (map decimal others) ++ 10 ∷ q = append_cancel_left (codes "FIX") _ _ (sym (fix_is fixes r) ∙ same ∙ fix_is others q) in
    let on = words_front decimal (λ (fix : ℕ). fix < 2 ^ 32) number_once fixes others (10 ∷ r) q is_l.each is_m.each (λ some. refl) words in
    let last = no_word decimal (λ (fix : ℕ). fix < 2 ^ 32) fixes others (10 ∷ r) q (feed_first r) on in
    let tails : 10 ∷ r ≡ 10 ∷ q = last.1 in
    (ap FixLine (sym last.0), cc)
line_unique (BoxLine why spans) (BoxLine reason others) r q is_l is_m same =
    let words : reason_word why ++ (spaced (map span_word spans) ++ 10 ∷ r) ≡ reason_word reason ++ (spaced (map span_word others) ++ 10 ∷ q) =
    append_cancel_left (codes "BOX ") _ _ (sym (box_is why spans r) ∙ same ∙ box_is reason others q) in
    let letter = reason_unique why reason _ _ words in
    let on = words_front span_word IsSpan span_once spans others (10 ∷ r) q is_l.each is_m.each (λ some. refl) letter.1 in
    let last = no_word span_word IsSpan spans others (10 ∷ r) q (feed_first r) on in
    let tails : 10 ∷ r ≡ 10 ∷ q = last.1 in
    let lists : spans ≡ others = sym last.0 in
    (λ i. BoxLine (letter.0 i) (lists i), cc)
line_unique l m r q is_l is_m same =
    absurd (omega (arith, sym (tag_is l r) ∙ ap (λ (t : List ℕ). get_or t 0 0) same ∙ tag_is m q))

-- no line of a proof is spelled in two ways, and nothing may stand behind its end
pub proof_plain : (v : Version) → IsPlain (proof_grammar v)
proof_plain v = record {
  once = λ line other rest more is_line is_other same. line_unique line other rest more is_line is_other same;
  ends = λ line. refl;
}

-- the text of a proof runs through to its end
text_full : (v : Version) (text : List ℕ) (ss : List Statement) → IsTextOf v text ss → IsFull (proof_grammar v) text (lines_of ss)
text_full v text ss of =
    let lines = flat_map claim_lines ss in
    record {
      runs = record {
        is = of.is ∙ sym (append-nil (proof_text v ss));
        follow = follow_append (proof_grammar v) (HeadingLine v) lines (EndLine ∷ []) (lines_follow v ss of.each).0 (tt, end_follows v ss of.each, tt);
      };
      ends = last-append (HeadingLine v) lines (EndLine ∷ []);
    }

-- a text that has a heading is refused by the version of that heading, if at all
runs_of : (v w : Version) (text r : List ℕ) (lines : List Line) (rest : List ℕ) → text ≡ ended (HeadingLine v) ++ r → RunsThrough (proof_grammar w) text lines rest → w ≡ v
runs_of v w text r lines rest begins runs =
    (heading_unique w v (spelled lines ++ rest) r (sym (append_assoc (ended (HeadingLine w)) (spelled lines) rest) ∙ sym runs.is ∙ begins)).0

refused_by : (v : Version) (text r : List ℕ) (error : ProofError) → text ≡ ended (HeadingLine v) ++ r → IsRefused text error → IsRefusal (proof_grammar v) text error
refused_by v text r Heading begins is = is v
refused_by v text r (WrongLine told) begins is =
    subst (λ (w : Version). IsRefusal (proof_grammar w) text (WrongLine told)) (runs_of v is.0 text r is.1.1.lines is.1.1.rest begins is.1.1.runs) is.1
refused_by v text r Cut begins is =
    subst (λ (w : Version). IsRefusal (proof_grammar w) text Cut) (runs_of v is.0 text r is.1.lines is.1.rest begins is.1.runs) is.1
refused_by v text r Memory begins is = tt

headed : (v : Version) (text : List ℕ) (lines : List Line) (rest : List ℕ) → RunsThrough (proof_grammar v) text lines rest → text ≡ ended (HeadingLine v) ++ (spelled lines ++ rest)
headed v text lines rest runs = runs.is ∙ append_assoc (ended (HeadingLine v)) (spelled lines) rest

once_by : (v : Version) (text : List ℕ) (lines : List Line) (rest : List ℕ) (a b : ProofError) → (a ≡ Memory → ⊥) → (b ≡ Memory → ⊥) → RunsThrough (proof_grammar v) text lines rest → IsRefused text a
    → IsRefused text b → a ≡ b
once_by v text lines rest a b some_a some_b runs is_a is_b =
    let begins = headed v text lines rest runs in
    refused_once (proof_grammar v) (proof_plain v) text a b some_a some_b (refused_by v text _ a begins is_a) (refused_by v text _ b begins is_b)

-- one refusal is told of a text, beside want of memory
pub refused_unique : (text : List ℕ) (a b : ProofError) → (a ≡ Memory → ⊥) → (b ≡ Memory → ⊥) → IsRefused text a → IsRefused text b → a ≡ b
refused_unique text Memory b some_a some_b is_a is_b = absurd (some_a refl)
refused_unique text a Memory some_a some_b is_a is_b = absurd (some_b refl)
refused_unique text Heading Heading some_a some_b is_a is_b = refl
refused_unique text a (WrongLine told) some_a some_b is_a is_b =
    once_by is_b.0 text is_b.1.1.lines is_b.1.1.rest a (WrongLine told) some_a some_b is_b.1.1.runs is_a is_b
refused_unique text a Cut some_a some_b is_a is_b =
    once_by is_b.0 text is_b.1.lines is_b.1.rest a Cut some_a some_b is_b.1.runs is_a is_b
refused_unique text (WrongLine told) Heading some_a some_b is_a is_b =
    once_by is_a.0 text is_a.1.1.lines is_a.1.1.rest (WrongLine told) Heading some_a some_b is_a.1.1.runs is_a is_b
refused_unique text Cut Heading some_a some_b is_a is_b =
    once_by is_a.0 text is_a.1.lines is_a.1.rest Cut Heading some_a some_b is_a.1.runs is_a is_b

-- and none of the text of a proof
pub text_refused : {v : Version} (text : List ℕ) (ss : List Statement) (error : ProofError) → IsTextOf v text ss → IsRefused text error → error ≡ Memory
text_refused {v} text ss error of is =
    full_refused (proof_grammar v) (proof_plain v) text (lines_of ss) error (text_full v text ss of) (refused_by v text (spelled (lines_of ss)) error of.is is)

-- lines that begin with no box
no_box_first : List Line → Type 0
no_box_first [] = Unit {0}
no_box_first (BoxLine why spans ∷ lines) = ⊥
no_box_first (line ∷ lines) = Unit {0}

boxes_unique : (xs ys : List (List (ℕ × ℕ) × Why)) (r q : List Line) → no_box_first r → no_box_first q → map box_line xs ++ r ≡ map box_line ys ++ q → (xs ≡ ys) × (r ≡ q)
unfolding no_box_first
boxes_unique [] [] r q none_r none_q same = (refl, same)
boxes_unique [] (y ∷ ys) r q none_r none_q same = absurd (subst no_box_first same none_r)
boxes_unique (x ∷ xs) [] r q none_r none_q same = absurd (subst no_box_first (sym same) none_q)
boxes_unique (x ∷ xs) (y ∷ ys) r q none_r none_q same =
    let why : x.1 ≡ y.1 = cc in
    let spans : x.0 ≡ y.0 = cc in
    let others : map box_line xs ++ r ≡ map box_line ys ++ q = cc in
    let rest = boxes_unique xs ys r q none_r none_q others in
    (λ i. (spans i, why i) ∷ rest.0 i, rest.1)

no_box_lines : (ss : List Statement) → no_box_first (lines_of ss)
unfolding no_box_first
no_box_lines [] = tt
no_box_lines (s ∷ ss) = tt

claim_unique : (m n : List ℕ) (k j : ClaimKind) (t u : Option ℕ) (fs gs : List ℕ) (xs ys : List (List (ℕ × ℕ) × Why)) (r q : List Line) → MatchOption t (fs ≡ []) (λ _. AreFixes fs)
    → MatchOption u (gs ≡ []) (λ _. AreFixes gs) → no_box_first r → no_box_first q
    → ClaimLine m k t ∷ (fix_lines t fs ++ (map box_line xs ++ r)) ≡ ClaimLine n j u ∷ (fix_lines u gs ++ (map box_line ys ++ q)) → (m ≡ n) × (k ≡ j) × (t ≡ u) × (fs ≡ gs) × (xs ≡ ys) × (r ≡ q)
claim_unique m n k j None None fs gs xs ys r q named_f named_g none_r none_q same =
    let number : m ≡ n = cc in
    let kind : k ≡ j = cc in
    let tails : map box_line xs ++ r ≡ map box_line ys ++ q = cc in
    let rest = boxes_unique xs ys r q none_r none_q tails in
    (number, kind, refl, named_f ∙ sym named_g, rest.0, rest.1)
claim_unique m n k j None (Some u) fs gs xs ys r q named_f named_g none_r none_q same =
    let total : None ≡ Some u = cc in absurd (cc)
claim_unique m n k j (Some t) None fs gs xs ys r q named_f named_g none_r none_q same =
    let total : Some t ≡ None = cc in absurd (cc)
claim_unique m n k j (Some t) (Some u) fs gs xs ys r q named_f named_g none_r none_q same =
    let number : m ≡ n = cc in
    let kind : k ≡ j = cc in
    let total : Some t ≡ Some u = cc in
    let fixes : fs ≡ gs = cc in
    let tails : map box_line xs ++ r ≡ map box_line ys ++ q = cc in
    let rest = boxes_unique xs ys r q none_r none_q tails in
    (number, kind, total, fixes, rest.0, rest.1)

lines_first : (s : Statement) (ss : List Statement) → lines_of (s ∷ ss) ≡ ClaimLine s.number s.kind s.total ∷ (fix_lines s.total s.fixes ++ (map box_line s.boxes ++ lines_of ss))
lines_first s ss =
    append_assoc (claim_lines s) (flat_map claim_lines ss) (EndLine ∷ [])
    ∙ ap (λ (l : List Line). ClaimLine s.number s.kind s.total ∷ l) (append_assoc (fix_lines s.total s.fixes) (map box_line s.boxes) (lines_of ss))

-- statements are those of their lines
pub lines_injective : (ss ts : List Statement) → All IsStatement ss → All IsStatement ts → lines_of ss ≡ lines_of ts → ss ≡ ts
lines_injective [] [] each_s each_t same = refl
lines_injective [] (t ∷ ts) each_s each_t same = let line : EndLine ≡ ClaimLine t.number t.kind t.total = cc in absurd (cc)
lines_injective (s ∷ ss) [] each_s each_t same = let line : ClaimLine s.number s.kind s.total ≡ EndLine = cc in absurd (cc)
lines_injective (s ∷ ss) (t ∷ ts) each_s each_t same =
    let is_s = All-head IsStatement s ss each_s in
    let is_t = All-head IsStatement t ts each_t in
    let parts = claim_unique s.number t.number s.kind t.kind s.total t.total s.fixes t.fixes s.boxes t.boxes (lines_of ss) (lines_of ts) is_s.fixes is_t.fixes (no_box_lines ss) (no_box_lines ts)
    (sym (lines_first s ss) ∙ same ∙ lines_first t ts) in
    let first : s ≡ t = λ i. record { number = parts.0 i; kind = parts.1 i; total = parts.2 i; fixes = parts.3 i; boxes = parts.4 i } in
    let rest = lines_injective ss ts (All-tail IsStatement s ss each_s) (All-tail IsStatement t ts each_t) parts.5 in
    λ i. first i ∷ rest i

-- one version of one proof has a text
pub version_unique : {v w : Version} (text : List ℕ) (ss ts : List Statement) → IsTextOf v text ss → IsTextOf w text ts → v ≡ w
version_unique {v} {w} text ss ts one other =
    (heading_unique v w (spelled (lines_of ss)) (spelled (lines_of ts)) (sym one.is ∙ other.is)).0

pub text_unique : {v w : Version} (text : List ℕ) (ss ts : List Statement) → IsTextOf v text ss → IsTextOf w text ts → ss ≡ ts
text_unique {v} {w} text ss ts one other =
    let also : IsTextOf v text ts = subst (λ (u : Version). IsTextOf u text ts) (sym (version_unique text ss ts one other)) other in
    lines_injective ss ts one.each other.each (full_unique (proof_grammar v) (proof_plain v) text (lines_of ss) (lines_of ts) (text_full v text ss one) (text_full v text ts also))

-- with the word of a box and the letter of its reason before them, spans are the line of a box
pub box_adds : (text words tail : List ℕ) (why : Why) (before after : List Closed) (taken : Option (Bor (List ℕ))) → text ≡ codes "BOX " ++ words → words ≡ reason_word why ++ tail
    → Adds (AreSpansAt tail) why before after taken → AddsBox text before after taken
box_adds text words tail why before after None front letter adds = (
  λ box rest at.
      let line : words ≡ reason_word box.1 ++ (spaced (map span_word box.0) ++ 10 ∷ rest) = append_cancel_left (codes "BOX ") _ _ (sym front ∙ at.1 ∙ box_is box.1 box.0 rest) in
      adds.0 box.0 rest (record { are_spans = at.0; is = (reason_unique why box.1 tail _ (sym letter ∙ line)).1 }),
  adds.1,
)
box_adds text words tail why before after (Some rest) front letter adds = (
  record { cell = adds.0; why = why },
  (
    adds.1.are_spans,
    front ∙ ap (λ (l : List ℕ). codes "BOX " ++ l) letter ∙ ap (λ (l : List ℕ). codes "BOX " ++ (reason_word why ++ l)) adds.1.is ∙ sym (box_is why (spans_of adds.0) rest.now),
  ),
  adds.2,
)

pub box_added : {E : Type 0} (text words tail : List ℕ) (why : Why) (before after : List Closed) (result : Result (Option (Bor (List ℕ))) E) → text ≡ codes "BOX " ++ words
    → words ≡ reason_word why ++ tail → IfOk result (Adds (AreSpansAt tail) why before after) → IfOk result (AddsBox text before after)
box_added text words tail why before after (Ok taken) front letter adds = box_adds text words tail why before after taken front letter adds
box_added text words tail why before after (Err error) front letter adds = adds
