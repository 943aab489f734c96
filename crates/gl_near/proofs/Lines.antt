-- The lines of the text of a claim: what is spelled at the front of a text can be spelled in no other way.
use Rattle.std.proofs.Common.{◌≡◌, ◌∙◌, sym, ap, refl, ℕ, ◌^◌, ◌<◌, List, [], ◌∷◌, ◌++◌, length, get_or, map, append_assoc, Option, None, Some, arith}
use Rattle.std.proofs.Common.{Bor}
use Rattle.std.specs.Char.{is_ascii_digit}
use Rattle.std.specs.Fmt.{decimal}
use Rattle.std.specs.Prelude.{All, codes}
use Rattle.std.proofs.lemmas.List.{append-nil, append_cancel_left}
use Rattle.std.proofs.lemmas.List.Elements.{All-head, All-tail}
use Rattle.gl_proof.specs.Fronts.{IsNumberAt, IsSpanAt, IsTotalAt, Reads, Stops}
use Rattle.gl_proof.specs.Code.Grammar.{IsPlain}
use Rattle.gl_proof.specs.Words.{IsSpan, spaced, span_word, total_word}
use Rattle.gl_proof.proofs.Codes.{number_unique, span_unique, words_front}
use Rattle.gl_proof.proofs.Words.{feed_first, no_word, span_once, total_there, total_unique}
use Rattle.gl_near.specs.declared.found.NearWhy.{NearWhy}
use Rattle.gl_near.specs.declared.found.NearWhy.TheVariants.{Time, Near}
use Rattle.gl_near.specs.Code.Fronts.{IsBoxAt, IsLeastAt, IsPairAt, IsReasonAt}
use Rattle.gl_near.specs.Line.{Line, HeadingLine, LeastLine, PairLine, BoxLine, EndLine, IsLine, ended, near_grammar, reason_word}

-- the byte with which a line begins
tag : Line → ℕ
tag HeadingLine = 71
tag (LeastLine total) = 76
tag (PairLine first second) = 80
tag (BoxLine why spans) = 66
tag EndLine = 69

tag_is : (line : Line) (r : List ℕ) → get_or (ended line ++ r) 0 0 ≡ tag line
unfolding tag
tag_is HeadingLine r = refl
tag_is (LeastLine total) r = refl
tag_is (PairLine first second) r = refl
tag_is (BoxLine why spans) r = refl
tag_is EndLine r = refl

-- the lines, part by part
pub least_is : (total : Option ℕ) (r : List ℕ) → ended (LeastLine total) ++ r ≡ codes "LEAST " ++ (total_word total ++ 10 ∷ r)
least_is total r = simp (append_assoc, append-nil)

two_words : (word a b r : List ℕ) → ((word ++ spaced (a ∷ b ∷ [])) ++ 10 ∷ []) ++ r ≡ word ++ 32 ∷ (a ++ 32 ∷ (b ++ 10 ∷ r))
two_words word a b r =
    let q : List ℕ = 10 ∷ r in
    let last : ((32 ∷ b) ++ []) ++ q ≡ 32 ∷ (b ++ q) = ap (λ (l : List ℕ). l ++ q) (append-nil (32 ∷ b)) in
    let first : spaced (a ∷ b ∷ []) ++ q ≡ 32 ∷ (a ++ 32 ∷ (b ++ q)) = append_assoc (32 ∷ a) (spaced (b ∷ [])) q ∙ ap (λ (l : List ℕ). (32 ∷ a) ++ l) last in
    append_assoc (word ++ spaced (a ∷ b ∷ [])) (10 ∷ []) r ∙ append_assoc word (spaced (a ∷ b ∷ [])) q ∙ ap (λ (l : List ℕ). word ++ l) first

pub pair_is : (first second : ℕ) (r : List ℕ) → ended (PairLine first second) ++ r ≡ codes "PAIR " ++ (decimal first ++ 32 ∷ (decimal second ++ 10 ∷ r))
pair_is first second r = two_words (codes "PAIR") (decimal first) (decimal second) r

pub box_is : (why : NearWhy) (spans : List (ℕ × ℕ)) (r : List ℕ) → ended (BoxLine why spans) ++ r ≡ codes "BOX " ++ (reason_word why ++ (spaced (map span_word spans) ++ 10 ∷ r))
box_is why spans r = simp (append_assoc, append-nil)

pub reason_unique : (w v : NearWhy) (r q : List ℕ) → reason_word w ++ r ≡ reason_word v ++ q → (w ≡ v) × (r ≡ q)
reason_unique Time Time r q same = (refl, append_cancel_left (codes "T") r q same)
reason_unique Near Near r q same = (refl, append_cancel_left (codes "N") r q same)
reason_unique Time Near r q same = let byte : 84 ≡ 78 = ap (λ (l : List ℕ). get_or l 0 0) same in absurd (omega (arith, byte))
reason_unique Near Time r q same = let byte : 78 ≡ 84 = ap (λ (l : List ℕ). get_or l 0 0) same in absurd (omega (arith, byte))

-- the pair at the front of a text
pub numbers_unique : (m n i j : ℕ) (r q : List ℕ) → m < 2 ^ 32 → n < 2 ^ 32 → i < 2 ^ 32 → j < 2 ^ 32 → decimal m ++ 32 ∷ (decimal n ++ 10 ∷ r) ≡ decimal i ++ 32 ∷ (decimal j ++ 10 ∷ q)
    → (m ≡ i) × (n ≡ j) × (r ≡ q)
numbers_unique m n i j r q small_m small_n small_i small_j same =
    let firsts = number_unique m i (32 ∷ (decimal n ++ 10 ∷ r)) (32 ∷ (decimal j ++ 10 ∷ q)) (omega (arith, small_m)) (omega (arith, small_i)) refl refl same in
    let tails : decimal n ++ 10 ∷ r ≡ decimal j ++ 10 ∷ q = let both = firsts.1 in cc in
    let seconds = number_unique n j (10 ∷ r) (10 ∷ q) (omega (arith, small_n)) (omega (arith, small_j)) refl refl tails in
    let ends : r ≡ q = let both = seconds.1 in cc in
    (firsts.0, seconds.0, ends)

pub line_unique : (l m : Line) (r q : List ℕ) → IsLine l → IsLine m → ended l ++ r ≡ ended m ++ q → (l ≡ m) × (r ≡ q)
unfolding tag
line_unique HeadingLine HeadingLine r q is_l is_m same = (refl, append_cancel_left (ended HeadingLine) r q same)
line_unique EndLine EndLine r q is_l is_m same = (refl, append_cancel_left (ended EndLine) r q same)
line_unique (LeastLine t) (LeastLine u) r q is_l is_m same =
    let words : total_word t ++ 10 ∷ r ≡ total_word u ++ 10 ∷ q = append_cancel_left (codes "LEAST ") _ _ (sym (least_is t r) ∙ same ∙ least_is u q) in
    let total = total_unique (total_word t ++ 10 ∷ r) t u r q (total_there _ t r is_l refl) (total_there _ u q is_m words) in
    (ap LeastLine total.0, total.1)
line_unique (PairLine m n) (PairLine i j) r q is_l is_m same =
    let words = append_cancel_left (codes "PAIR ") _ _ (sym (pair_is m n r) ∙ same ∙ pair_is i j q) in
    let numbers = numbers_unique m n i j r q is_l.0 is_l.1 is_m.0 is_m.1 words in
    (λ k. PairLine (numbers.0 k) (numbers.1 k), numbers.2)
line_unique (BoxLine why spans) (BoxLine reason others) r q is_l is_m same =
    let words : reason_word why ++ (spaced (map span_word spans) ++ 10 ∷ r) ≡ reason_word reason ++ (spaced (map span_word others) ++ 10 ∷ q) =
    append_cancel_left (codes "BOX ") _ _ (sym (box_is why spans r) ∙ same ∙ box_is reason others q) in
    let letter = reason_unique why reason _ _ words in
    let on = words_front span_word IsSpan span_once spans others (10 ∷ r) q is_l.each is_m.each (λ some. refl) letter.1 in
    let last = no_word span_word IsSpan spans others (10 ∷ r) q (feed_first r) on in
    let tails : 10 ∷ r ≡ 10 ∷ q = last.1 in
    let lists : spans ≡ others = sym last.0 in
    (λ i. BoxLine (letter.0 i) (lists i), cc)
line_unique l m r q is_l is_m same =
    absurd (omega (arith, sym (tag_is l r) ∙ ap (λ (t : List ℕ). get_or t 0 0) same ∙ tag_is m q))

-- no line is spelled in two ways, and nothing may stand behind the end
pub near_plain : IsPlain near_grammar
near_plain = record {
  once = λ line other rest more is_line is_other same. line_unique line other rest more is_line is_other same;
  ends = λ line. refl;
}

-- the total that stands behind the word of the least distance
least_there : (text tail : List ℕ) (total : Option ℕ) (rest : List ℕ) → text ≡ codes "LEAST " ++ tail → IsTotalAt tail total rest → IsLeastAt text total rest
least_there text tail None rest front at = (tt, front ∙ ap (λ (l : List ℕ). codes "LEAST " ++ l) at ∙ sym (least_is None rest))
least_there text tail (Some total) rest front at = (at.0, front ∙ ap (λ (l : List ℕ). codes "LEAST " ++ l) at.1 ∙ sym (least_is (Some total) rest))

pub least_read : (text tail : List ℕ) (taken : Option (Option ℕ × Bor (List ℕ))) → text ≡ codes "LEAST " ++ tail → Reads (λ total. total) (IsTotalAt tail) taken
    → Reads (λ total. total) (IsLeastAt text) taken
least_read text tail None front none = λ total rest at.
    none total rest (total_there tail total rest at.0 (append_cancel_left (codes "LEAST ") _ _ (sym front ∙ at.1 ∙ least_is total rest)))
least_read text tail (Some taken) front at = least_there text tail taken.0 taken.1.now front at

-- behind the word of a pair
pub pair_tail : (text after : List ℕ) (pair : ℕ × ℕ) (more : List ℕ) → text ≡ codes "PAIR " ++ after → IsPairAt text pair more → after ≡ decimal pair.0 ++ 32 ∷ (decimal pair.1 ++ 10 ∷ more)
pair_tail text after pair more front at = append_cancel_left (codes "PAIR ") _ _ (sym front ∙ at.1 ∙ pair_is pair.0 pair.1 more)

-- what is behind a number that was read
pub number_passed : (text rest more : List ℕ) (read number : ℕ) → IsNumberAt (2 ^ 32) text read rest → number < 2 ^ 32 → Stops is_ascii_digit more → text ≡ decimal number ++ more → rest ≡ more
number_passed text rest more read number at small stops is =
    (number_unique read number rest more (omega (arith, at.below)) (omega (arith, small)) at.stops stops (sym at.is ∙ is)).1

-- the parts of the line of a box
pub record BoxParts (text : List ℕ) (box : List (ℕ × ℕ) × NearWhy) (more : List ℕ) : Type 0 where
  pub first : ℕ × ℕ
  pub second : ℕ × ℕ
  pub is_first : IsSpan first
  pub is_second : IsSpan second
  pub is : text ≡ codes "BOX " ++ (reason_word box.1 ++ 32 ∷ (span_word first ++ 32 ∷ (span_word second ++ 10 ∷ more)))

two_spaced : (a b r : List ℕ) → spaced (a ∷ b ∷ []) ++ 10 ∷ r ≡ 32 ∷ (a ++ 32 ∷ (b ++ 10 ∷ r))
two_spaced a b r =
    append_assoc (32 ∷ a) (spaced (b ∷ [])) (10 ∷ r) ∙ ap (λ (l : List ℕ). (32 ∷ a) ++ (l ++ 10 ∷ r)) (append-nil (32 ∷ b))

pub two_box_is : (why : NearWhy) (first second : ℕ × ℕ) (r : List ℕ) → ended (BoxLine why (first ∷ second ∷ [])) ++ r
    ≡ codes "BOX " ++ (reason_word why ++ 32 ∷ (span_word first ++ 32 ∷ (span_word second ++ 10 ∷ r)))
two_box_is why first second r =
    box_is why (first ∷ second ∷ []) r ∙ ap (λ (l : List ℕ). codes "BOX " ++ (reason_word why ++ l)) (two_spaced (span_word first) (span_word second) r)

parts_of : (text : List ℕ) (spans : List (ℕ × ℕ)) (why : NearWhy) (more : List ℕ) → length spans ≡ 2 → All IsSpan spans → text ≡ ended (BoxLine why spans) ++ more → BoxParts text (spans, why) more
parts_of text [] why more long each is = absurd (omega arith)
parts_of text (a ∷ []) why more long each is = absurd (omega arith)
parts_of text (a ∷ b ∷ []) why more long each is = record {
  first = a;
  second = b;
  is_first = All-head IsSpan a (b ∷ []) each;
  is_second = All-head IsSpan b [] (All-tail IsSpan a (b ∷ []) each);
  is = is ∙ two_box_is why a b more;
}
parts_of text (a ∷ b ∷ c ∷ rest) why more long each is = absurd (omega arith)

pub box_parts : (text : List ℕ) (box : List (ℕ × ℕ) × NearWhy) (more : List ℕ) → IsBoxAt text box more → BoxParts text box more
box_parts text box more at = parts_of text box.0 box.1 more at.0.two at.0.each at.1

-- behind the letter of a reason that was read
pub reason_passed : (text after : List ℕ) (why : NearWhy) (box : List (ℕ × ℕ) × NearWhy) (more : List ℕ) → IsReasonAt text why after → (parts : BoxParts text box more)
    → after ≡ span_word parts.first ++ 32 ∷ (span_word parts.second ++ 10 ∷ more)
reason_passed text after why box more at parts =
    let words = append_cancel_left (codes "BOX ") _ _ (sym at ∙ parts.is) in
    let tails = (reason_unique why box.1 _ _ words).1 in
    append_cancel_left (32 ∷ []) _ _ tails

-- what is behind a span that was read
pub span_passed : (text rest more : List ℕ) (read span : ℕ × ℕ) → IsSpanAt text read rest → IsSpan span → Stops is_ascii_digit more → text ≡ span_word span ++ more → rest ≡ more
span_passed text rest more read span at is_span stops is =
    (span_unique read span rest more at.is_span is_span at.stops stops (sym at.is ∙ is)).1
