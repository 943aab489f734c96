-- The lines of a proof, one behind the other, and where no further line may stand.
use Rattle.std.proofs.Common.{◌≡◌, ◌≢◌, ◌∙◌, sym, ap, refl, subst, ℕ, ◌+◌, ◌^◌, ◌<◌, inl, inr, true, List, [], ◌∷◌, ◌++◌, length, map, append_assoc, Option, Some, None, arith}
use Rattle.std.specs.List.{flat_map}
use Rattle.std.specs.Prelude.{All, IfSome, IsSome, IsTrue, MatchOption, min}
use Rattle.std.proofs.lemmas.Bool.{false≢true}
use Rattle.std.proofs.lemmas.List.{append-nil, length-append, length-map}
use Rattle.std.proofs.lemmas.List.Concat.{flat_map-append}
use Rattle.std.proofs.lemmas.List.Elements.{All-head, All-tail}
use Rattle.gl_box.specs.declared.closed.Why.{Why}
use Rattle.gl_proof.specs.declared.claim.ClaimKind.{ClaimKind}
use Rattle.gl_proof.specs.declared.version.Version.{Version}
use Rattle.gl_proof.specs.declared.error.ProofError.{ProofError}
use Rattle.gl_proof.specs.declared.error.ProofError.TheVariants.{Heading, Line as WrongLine, Cut, Memory}
use Rattle.gl_proof.specs.Misfit.{OrMemory}
use Rattle.gl_proof.specs.LineRefusal.{Follow, NoneFollows, RunsThrough, last_line}
use Rattle.gl_proof.proofs.Refused.{follow_append, last-append, runs_more, told_on}
use Rattle.gl_proof.specs.Claim.{IsStatement, Statement, box_line, claim_lines, claim_text, fix_lines, spelled}
use Rattle.gl_proof.specs.Code.Fronts.{IsClaimAt}
use Rattle.gl_proof.specs.Line.{AreFixes, AreSpans, Line, HeadingLine, ClaimLine, FixLine, BoxLine, EndLine, IsLine, ended, goes_on, may_follow, proof_grammar}
use Rattle.gl_text.specs.Forms.{is_number}
use Rattle.gl_proof.specs.Code.Passage.{AreBoxesAt, AreClaimedAt, IsClaimRead, LacksClaim, NoBox, NoClaim, NoFixes}
use Rattle.gl_proof.specs.Refusal.{IsRefused}

-- behind a line a claim goes on or ends
abbrev pub GoesOn : Line → Type 0
GoesOn last = (next : Line) → may_follow last next ≡ goes_on next

boxes_follow : (v : Version) (last : Line) (boxes : List (List (ℕ × ℕ) × Why)) → GoesOn last → All (λ box. AreSpans box.0) boxes
    → Follow (proof_grammar v) last (map box_line boxes) × GoesOn (last_line last (map box_line boxes))
boxes_follow v last [] on each = (tt, on)
boxes_follow v last (box ∷ boxes) on each =
    let rest = boxes_follow v (box_line box) boxes (λ next. refl) (All-tail (λ (b : List (ℕ × ℕ) × Why). AreSpans b.0) box boxes each) in
    ((All-head (λ (b : List (ℕ × ℕ) × Why). AreSpans b.0) box boxes each, on (box_line box), rest.0), rest.1)

claim_follows' : (v : Version) (last : Line) (number : List ℕ) (kind : ClaimKind) (total : Option ℕ) (fixes : List ℕ) (boxes : List (List (ℕ × ℕ) × Why)) → IsTrue (is_number number)
    → IfSome total (λ greatest. greatest < 2 ^ 64) → MatchOption total (fixes ≡ []) (λ _. AreFixes fixes) → All (λ box. AreSpans box.0) boxes → may_follow last (ClaimLine number kind total) ≡ true
    → Follow (proof_grammar v) last (ClaimLine number kind total ∷ (fix_lines total fixes ++ map box_line boxes))
    × GoesOn (last_line last (ClaimLine number kind total ∷ (fix_lines total fixes ++ map box_line boxes)))
claim_follows' v last number kind None fixes boxes is_number small named each may =
    let rest = boxes_follow v (ClaimLine number kind None) boxes (λ next. refl) each in
    (((is_number, small), may, rest.0), rest.1)
claim_follows' v last number kind (Some total) fixes boxes is_number small named each may =
    let rest = boxes_follow v (FixLine fixes) boxes (λ next. refl) each in
    (((is_number, small), may, (named, refl, rest.0)), rest.1)

pub claim_follows : (v : Version) (last : Line) (s : Statement) → IsStatement s → may_follow last (ClaimLine s.number s.kind s.total) ≡ true
    → Follow (proof_grammar v) last (claim_lines s) × GoesOn (last_line last (claim_lines s))
claim_follows v last s is may = claim_follows' v last s.number s.kind s.total s.fixes s.boxes is.number is.total is.fixes is.boxes may

pub claims_follow : (v : Version) (last : Line) (ss : List Statement) → GoesOn last → All IsStatement ss
    → Follow (proof_grammar v) last (flat_map claim_lines ss) × GoesOn (last_line last (flat_map claim_lines ss))
claims_follow v last [] on each = (tt, on)
claims_follow v last (s ∷ ss) on each =
    let one = claim_follows v last s (All-head IsStatement s ss each) (on (ClaimLine s.number s.kind s.total)) in
    let rest = claims_follow v (last_line last (claim_lines s)) ss one.1 (All-tail IsStatement s ss each) in
    (follow_append (proof_grammar v) last (claim_lines s) (flat_map claim_lines ss) one.0 rest.0, subst GoesOn (sym (last-append last (claim_lines s) (flat_map claim_lines ss))) rest.1)

-- the lines of claims behind the heading
pub lines_follow : (v : Version) (ss : List Statement) → All IsStatement ss
    → Follow (proof_grammar v) (HeadingLine v) (flat_map claim_lines ss) × (0 < length ss → GoesOn (last_line (HeadingLine v) (flat_map claim_lines ss)))
lines_follow v [] each = (tt, λ some. absurd (omega arith))
lines_follow v (s ∷ ss) each =
    let one = claim_follows v (HeadingLine v) s (All-head IsStatement s ss each) refl in
    let rest = claims_follow v (last_line (HeadingLine v) (claim_lines s)) ss one.1 (All-tail IsStatement s ss each) in (
      follow_append (proof_grammar v) (HeadingLine v) (claim_lines s) (flat_map claim_lines ss) one.0 rest.0,
      λ some. subst GoesOn (sym (last-append (HeadingLine v) (claim_lines s) (flat_map claim_lines ss))) rest.1,
    )

-- the end may stand behind them
pub end_follows : (v : Version) (ss : List Statement) → All IsStatement ss → may_follow (last_line (HeadingLine v) (flat_map claim_lines ss)) EndLine ≡ true
end_follows v [] each = refl
end_follows v (s ∷ ss) each = (lines_follow v (s ∷ ss) each).1 (omega arith) EndLine

pub claim_may_follow : (v : Version) (ss : List Statement) (number : List ℕ) (kind : ClaimKind) (total : Option ℕ) → All IsStatement ss
    → may_follow (last_line (HeadingLine v) (flat_map claim_lines ss)) (ClaimLine number kind total) ≡ true
claim_may_follow v [] number kind total each = refl
claim_may_follow v (s ∷ ss) number kind total each = (lines_follow v (s ∷ ss) each).1 (omega arith) (ClaimLine number kind total)

-- and none of them is the end
pub not_ended : (v : Version) (ss : List Statement) → All IsStatement ss → last_line (HeadingLine v) (flat_map claim_lines ss) ≢ EndLine
not_ended v ss each same = false≢true (sym (ap (λ (last : Line). may_follow last EndLine) same) ∙ end_follows v ss each)

heading_none : (v : Version) (rest : List ℕ) → NoClaim rest → ((more : List ℕ) → rest ≡ ended EndLine ++ more → ⊥) → NoneFollows (proof_grammar v) (HeadingLine v) rest
heading_none v rest no_claim no_end (HeadingLine w) more is may text = false≢true may
heading_none v rest no_claim no_end (ClaimLine number kind total) more is may text = no_claim (number, kind, total) more (is, text)
heading_none v rest no_claim no_end (FixLine fixes) more is may text = false≢true may
heading_none v rest no_claim no_end (BoxLine why spans) more is may text = false≢true may
heading_none v rest no_claim no_end EndLine more is may text = no_end more text

goes_none : (rest : List ℕ) (line : Line) (more : List ℕ) → NoClaim rest → NoBox rest → ((more : List ℕ) → rest ≡ ended EndLine ++ more → ⊥) → IsLine line → goes_on line ≡ true
    → rest ≡ ended line ++ more → ⊥
goes_none rest (HeadingLine w) more no_claim no_box no_end is may text = false≢true may
goes_none rest (ClaimLine number kind total) more no_claim no_box no_end is may text = no_claim (number, kind, total) more (is, text)
goes_none rest (FixLine fixes) more no_claim no_box no_end is may text = false≢true may
goes_none rest (BoxLine why spans) more no_claim no_box no_end is may text = no_box (spans, why) more (is, text)
goes_none rest EndLine more no_claim no_box no_end is may text = no_end more text

pub none_follows : (v : Version) (ss : List Statement) (rest : List ℕ) → All IsStatement ss → (0 < length ss → NoBox rest) → NoClaim rest → ((more : List ℕ) → rest ≡ ended EndLine ++ more → ⊥)
    → NoneFollows (proof_grammar v) (last_line (HeadingLine v) (flat_map claim_lines ss)) rest
none_follows v [] rest each no_box no_claim no_end line more is may text = heading_none v rest no_claim no_end line more is may text
none_follows v (s ∷ ss) rest each no_box no_claim no_end line more is may text =
    goes_none rest line more no_claim (no_box (omega arith)) no_end is (sym ((lines_follow v (s ∷ ss) each).1 (omega arith) line) ∙ may) text

-- behind the line of a claim with a total only its fixes may stand
pub fixes_none : (v : Version) (number : List ℕ) (kind : ClaimKind) (total : Option ℕ) (rest : List ℕ) → IsSome total → NoFixes rest → NoneFollows (proof_grammar v) (ClaimLine number kind total) rest
fixes_none v number kind None rest some none line more is may text = false≢true some
fixes_none v number kind (Some total) rest some none (HeadingLine w) more is may text = false≢true may
fixes_none v number kind (Some total) rest some none (ClaimLine n k t) more is may text = false≢true may
fixes_none v number kind (Some total) rest some none (FixLine fixes) more is may text = none fixes more is text
fixes_none v number kind (Some total) rest some none (BoxLine why spans) more is may text = false≢true may
fixes_none v number kind (Some total) rest some none EndLine more is may text = false≢true may

-- a claim more
pub claims_more : (v : Version) (text : List ℕ) (ss : List Statement) (rest : List ℕ) (s : Statement) (more : List ℕ) → text ≡ spelled (HeadingLine v ∷ flat_map claim_lines ss) ++ rest
    → rest ≡ claim_text s ++ more → text ≡ spelled (HeadingLine v ∷ flat_map claim_lines (ss ++ s ∷ [])) ++ more
claims_more v text ss rest s more is front =
    let all = spelled (HeadingLine v ∷ flat_map claim_lines ss) in
    let lines : flat_map claim_lines (ss ++ s ∷ []) ≡ flat_map claim_lines ss ++ claim_lines s = flat_map-append claim_lines ss (s ∷ [])
    ∙ ap (λ (l : List Line). flat_map claim_lines ss ++ l) (append-nil (claim_lines s)) in
    let added : spelled (HeadingLine v ∷ flat_map claim_lines (ss ++ s ∷ [])) ≡ all ++ claim_text s = ap (λ (l : List Line). spelled (HeadingLine v ∷ l)) lines
    ∙ flat_map-append ended (HeadingLine v ∷ flat_map claim_lines ss) (claim_lines s) in
    is ∙ ap (λ (l : List ℕ). all ++ l) front ∙ sym (append_assoc all (claim_text s) more) ∙ ap (λ (l : List ℕ). l ++ more) (sym added)

pub length-claims_more : (ss : List Statement) (s : Statement) → length (flat_map claim_lines (ss ++ s ∷ [])) ≡ length (flat_map claim_lines ss) + length (claim_lines s)
length-claims_more ss s =
    ap length (flat_map-append claim_lines ss (s ∷ []) ∙ ap (λ (l : List Line). flat_map claim_lines ss ++ l) (append-nil (claim_lines s))) ∙ length-append (flat_map claim_lines ss) (claim_lines s)

-- a claim whose parts were read
pub claim_read : (text rest after more name number : List ℕ) (kind : ClaimKind) (total : Option ℕ) (fixes : List ℕ) (boxes : List (List (ℕ × ℕ) × Why)) (line lines second next : ℕ) → name ≡ number
    → IsClaimAt text (number, kind, total) rest → AreClaimedAt total rest fixes after → AreBoxesAt after boxes more → lines ≡ 1 + length (fix_lines total fixes)
    → second ≡ min (line + lines) 4_294_967_295 → next ≡ min (second + length boxes) 4_294_967_295
    → IsClaimRead text line (record { number = name; kind = kind; total = total; fixes = fixes; boxes = boxes }) more next
claim_read text rest after more name number kind total fixes boxes line lines second next is_name claim claimed at count is_second is_next =
    let first = ended (ClaimLine number kind total) in
    let middle = spelled (fix_lines total fixes) in
    let last = spelled (map box_line boxes) in
    let whole : text ≡ (first ++ (middle ++ last)) ++ more =
    claim.1 ∙ ap (λ (l : List ℕ). first ++ l) (claimed.is ∙ ap (λ (l : List ℕ). middle ++ l) at.is ∙ sym (append_assoc middle last more)) ∙ sym (append_assoc first (middle ++ last) more) in
    let joined : middle ++ last ≡ spelled (fix_lines total fixes ++ map box_line boxes) = sym (flat_map-append ended (fix_lines total fixes) (map box_line boxes)) in
    let some : 0 < length first = omega arith in
    record {
      is_statement = record { number = subst (λ (n : List ℕ). IsTrue (is_number n)) (sym is_name) claim.0.0; total = claim.0.1; fixes = claimed.fixes; boxes = at.each };
      is = whole ∙ ap (λ (l : List ℕ). (first ++ l) ++ more) joined ∙ ap (λ (n : List ℕ). (ended (ClaimLine n kind total) ++ spelled (fix_lines total fixes ++ map box_line boxes)) ++ more)
          (sym is_name);
      last = at.last;
      counted = told_on next second (line + lines) (length boxes) is_next is_second
          ∙ ap (λ (n : ℕ). min n 4_294_967_295) (omega (arith, count, length-append (fix_lines total fixes) (map box_line boxes), length-map boxes box_line));
      shorter = omega (arith, ap length whole, length-append (first ++ (middle ++ last)) more, length-append first (middle ++ last), some);
    }

-- where the claim that should come next is lacking
pub refused_claim : (v : Version) (text : List ℕ) (ss : List Statement) (rest : List ℕ) (line : ℕ) (error : ProofError) → All IsStatement ss
    → text ≡ spelled (HeadingLine v ∷ flat_map claim_lines ss) ++ rest → line ≡ min (length (flat_map claim_lines ss) + 2) 4_294_967_295 → (0 < length ss → NoBox rest)
    → ((more : List ℕ) → rest ≡ ended EndLine ++ more → ⊥) → OrMemory error (LacksClaim rest line error) → IsRefused text error
refused_claim v text ss rest line Memory each is counted no_box no_end lacks = tt
refused_claim v text ss rest line Heading each is counted no_box no_end (inl at) = absurd at.1
refused_claim v text ss rest line Heading each is counted no_box no_end (inr at) = absurd at.lacks.misfit
refused_claim v text ss rest line (WrongLine told) each is counted no_box no_end (inl at) =
    let lines = flat_map claim_lines ss in (
      v,
      (
        length lines + 2,
        record {
          lines = lines;
          rest = rest;
          runs = record { is = is; follow = (lines_follow v ss each).0 };
          counted = refl;
          wrong = inl (at.1.0, none_follows v ss rest each no_box at.0 no_end);
        },
        at.1.1 ∙ counted,
      ),
    )
refused_claim v text ss rest line (WrongLine told) each is counted no_box no_end (inr at) =
    let lines = flat_map claim_lines ss in
    let next = ClaimLine at.said.0 at.said.1 at.said.2 in
    let runs : RunsThrough (proof_grammar v) text lines rest = record { is = is; follow = (lines_follow v ss each).0 } in
    let last : last_line (HeadingLine v) (lines ++ next ∷ []) ≡ next = last-append (HeadingLine v) lines (next ∷ []) in (
      v,
      (
        length lines + 2 + 1,
        record {
          lines = lines ++ next ∷ [];
          rest = at.rest;
          runs = runs_more (proof_grammar v) text lines rest next at.rest runs at.claim.1 at.claim.0 (claim_may_follow v ss at.said.0 at.said.1 at.said.2 each);
          counted = omega (arith, length-append lines (next ∷ []));
          wrong = inl (at.lacks.misfit.0, subst (λ (l : Line). NoneFollows (proof_grammar v) l at.rest) (sym last) (fixes_none v at.said.0 at.said.1 at.said.2 at.rest at.lacks.some at.lacks.none));
        },
        told_on told line (length lines + 2) 1 at.lacks.misfit.1 counted,
      ),
    )
refused_claim v text ss rest line Cut each is counted no_box no_end (inl at) = (
  v,
  record {
    lines = flat_map claim_lines ss;
    rest = rest;
    runs = record { is = is; follow = (lines_follow v ss each).0 };
    unended = not_ended v ss each;
    broken = at.1;
  },
)
refused_claim v text ss rest line Cut each is counted no_box no_end (inr at) =
    let lines = flat_map claim_lines ss in
    let next = ClaimLine at.said.0 at.said.1 at.said.2 in
    let runs : RunsThrough (proof_grammar v) text lines rest = record { is = is; follow = (lines_follow v ss each).0 } in
    let last : last_line (HeadingLine v) (lines ++ next ∷ []) ≡ next = last-append (HeadingLine v) lines (next ∷ []) in (
      v,
      record {
        lines = lines ++ next ∷ [];
        rest = at.rest;
        runs = runs_more (proof_grammar v) text lines rest next at.rest runs at.claim.1 at.claim.0 (claim_may_follow v ss at.said.0 at.said.1 at.said.2 each);
        unended = λ same. let both : next ≡ EndLine = sym last ∙ same in cc;
        broken = at.lacks.misfit;
      },
    )

-- where a line begins behind the end
pub refused_after : (v : Version) (text : List ℕ) (ss : List Statement) (rest : List ℕ) (line told : ℕ) (after : List ℕ) → All IsStatement ss
    → text ≡ spelled (HeadingLine v ∷ flat_map claim_lines ss) ++ rest → line ≡ min (length (flat_map claim_lines ss) + 2) 4_294_967_295 → rest ≡ ended EndLine ++ after → (after ≡ [] → ⊥)
    → told ≡ min (line + 1) 4_294_967_295 → IsRefused text (WrongLine told)
refused_after v text ss rest line told after each is counted front some is_told =
    let lines = flat_map claim_lines ss in
    let runs : RunsThrough (proof_grammar v) text lines rest = record { is = is; follow = (lines_follow v ss each).0 } in (
      v,
      (
        length lines + 2 + 1,
        record {
          lines = lines ++ EndLine ∷ [];
          rest = after;
          runs = runs_more (proof_grammar v) text lines rest EndLine after runs front tt (end_follows v ss each);
          counted = omega (arith, length-append lines (EndLine ∷ []));
          wrong = inr (last-append (HeadingLine v) lines (EndLine ∷ []), some);
        },
        told_on told line (length lines + 2) 1 is_told counted,
      ),
    )
