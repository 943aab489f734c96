-- The line of an entry is that of no other entry, and the first line that doesn't read is the one
-- that is told.
use Rattle.std.proofs.Common.{◌≡◌, ◌∙◌, sym, ap, subst, refl, inl, inr, ℕ, suc, ◌+◌, List, [], ◌∷◌, ◌++◌, length, get_or, drop, append_assoc, Result, Ok, Err, arith}
use Rattle.std.specs.Prelude.{IfOk, IfErr, IsErrOf, ◌⊎◌}
use Rattle.std.specs.List.{AllZip, flat_map}
use Rattle.gl_text.specs.Lines.{lines_of}
use Rattle.gl_series.specs.declared.entry.Entry.{Entry}
use Rattle.gl_series.specs.declared.entry.Entry.TheVariants.{Day, Team}
use Rattle.gl_series.specs.declared.error.ListError.{ListError}
use Rattle.gl_series.specs.declared.error.ListError.TheVariants.{Heading, Line, Memory}
use Rattle.gl_series.specs.declared.series.Member.{Member}
use Rattle.gl_series.specs.declared.series.Series.{Series}
use Rattle.gl_series.specs.Code.Adding.{IsBehindHeading, IsNext, IsStopped, SaysUpTo, StopsAt, with_entry}
use Rattle.gl_series.specs.OneByOne.{Reads, StopsBehind}
use Rattle.gl_series.specs.SeriesList.{Fit, IsLineOf, IsList, IsRefused, IsSeries, day_of, heading, line_of, member_of, series_of}
use Rattle.gl_series.proofs.Growing.{fit_begins, series_push}
use Rattle.gl_series.proofs.Members.{number_spaceless}
use Rattle.gl_series.proofs.Unique.{reads_on, reads_once, stops_once}
use Rattle.gl_text.proofs.Lists.{AllZip-push}
use Rattle.gl_text.proofs.Characters.{first_space}

-- a line of one kind begins otherwise than one of the other
kinds_apart : (line name : List ℕ) (member : Member) → line ≡ line_of (Day name) → line ≡ line_of (Team member) → ⊥
kinds_apart line name member day team =
    let first : 68 ≡ 84 = ap (λ (l : List ℕ). get_or l 0 0) (sym day ∙ team) in
    omega (arith, first)

-- a line is that of one entry
pub line_unique : (line : List ℕ) (a b : Entry) → IsLineOf line a → IsLineOf line b → a ≡ b
line_unique line (Day x) (Day y) a b =
    let names : x ≡ y = ap (drop 4) (sym a.is ∙ b.is) in ap Day names
line_unique line (Day x) (Team n) a b = absurd (kinds_apart line x n a.is b.is)
line_unique line (Team m) (Day y) a b = absurd (kinds_apart line y m b.is a.is)
line_unique line (Team m) (Team n) a b =
    let tails : m.number ++ 32 ∷ m.team ≡ n.number ++ 32 ∷ n.team = ap (drop 5) (sym a.is ∙ b.is) in
    let parts = first_space m.number n.number m.team n.team (number_spaceless m.number a.is_entry.0) (number_spaceless n.number b.is_entry.0) tails in
    λ i. Team (record { number = parts.0 i; team = parts.1 i })

pub zip_long : {L I : Type 0} (Is : L → I → Type 0) (ls : List L) (xs : List I) → AllZip Is ls xs → length xs ≡ length ls
zip_long Is [] [] each = refl
zip_long Is [] (y ∷ ys) each = absurd each
zip_long Is (k ∷ ks) [] each = absurd each
zip_long Is (k ∷ ks) (y ∷ ys) each = ap suc (zip_long Is ks ys each.1)

-- each entry is a day or a member
entries_counted : (entries : List Entry) → length entries ≡ length (flat_map day_of entries) + length (flat_map member_of entries)
entries_counted [] = refl
entries_counted (Day name ∷ entries) = omega (arith, entries_counted entries)
entries_counted (Team member ∷ entries) = omega (arith, entries_counted entries)

-- the days and members of some lines, with what one more entry says
next_fits : (days : List (List ℕ)) (teams : List Member) (entries : List Entry) (entry : Entry) → record { days = days; teams = teams } ≡ series_of entries
    → series_of (entries ++ entry ∷ []) ≡ with_entry days teams entry
next_fits days teams entries entry says =
    series_push entries entry ∙ ap (λ (s : Series). with_entry s.days s.teams entry) (sym says)

pub says_more : (lines rest behind : List (List ℕ)) (line : List ℕ) (days : List (List ℕ)) (teams : List Member) (entry : Entry) (series : Series)
    → SaysUpTo lines rest (record { days = days; teams = teams }) → rest ≡ line ∷ behind → IsNext days teams line entry → series ≡ with_entry days teams entry → SaysUpTo lines behind series
says_more lines rest behind line days teams entry series far here next is =
    let before = far.says in
    let grown = next_fits days teams before.entries entry before.says in
    record {
      front = far.front ++ line ∷ [];
      parts = far.parts ∙ ap (λ (l : List (List ℕ)). far.front ++ l) here ∙ sym (append_assoc far.front (line ∷ []) behind);
      says = record {
        entries = before.entries ++ entry ∷ [];
        reads = record {
          each = AllZip-push IsLineOf far.front before.entries line entry before.reads.each next.is_line;
          fit = subst IsSeries (sym grown) next.fits;
        };
        says = is ∙ sym grown;
      };
    }

pub stops_here : (lines rest behind : List (List ℕ)) (line : List ℕ) (days : List (List ℕ)) (teams : List Member) (number : ℕ) → SaysUpTo lines rest (record { days = days; teams = teams })
    → rest ≡ line ∷ behind → ((entry : Entry) → IsNext days teams line entry → ⊥) → number ≡ length days + length teams + 2 → StopsAt lines number
stops_here lines rest behind line days teams number far here none is =
    let before = far.says in
    let many = zip_long IsLineOf far.front before.entries before.reads.each in
    let kinds = entries_counted before.entries in
    let said_days : days ≡ flat_map day_of before.entries = ap (λ (s : Series). s.days) before.says in
    let said_teams : teams ≡ flat_map member_of before.entries = ap (λ (s : Series). s.teams) before.says in
    record {
      count = length far.front;
      stops = record {
        front = far.front;
        wrong = line;
        behind = behind;
        items = before.entries;
        parts = far.parts ∙ ap (λ (l : List (List ℕ)). far.front ++ l) here;
        before = before.reads;
        none = λ entry is_line fit. none entry (record { is_line = is_line; fits = subst IsSeries (next_fits days teams before.entries entry before.says) fit });
        counted = refl;
      };
      number_is = omega (arith, is, many, kinds, ap length said_days, ap length said_teams);
    }

pub list_stops : (text : List ℕ) (place : ℕ) (error : ListError) → IsBehindHeading text place → IsStopped (lines_of (drop place text)) error → IsRefused text error
list_stops text place Heading head stopped = absurd stopped
list_stops text place (Line number) head stopped = record {
  rest = lines_of (drop place text);
  count = stopped.count;
  lines = head.lines;
  stops = stopped.stops;
  number_is = stopped.number_is;
}
list_stops text place Memory head stopped = stopped

-- one list, or one refusal
same_rest : (text : List ℕ) (a b : List (List ℕ)) → lines_of text ≡ heading ∷ a → lines_of text ≡ heading ∷ b → a ≡ b
same_rest text a b one other = ap (drop 1) (sym one ∙ other)

pub list_unique : (text : List ℕ) (a b : Series) → IsList text a → IsList text b → a ≡ b
list_unique text a b one other =
    let rest = same_rest text one.rest other.rest one.lines other.lines in
    let entries = reads_once IsLineOf line_unique Fit fit_begins other.rest one.entries other.entries (subst (λ (l : List (List ℕ)). Reads IsLineOf Fit l one.entries) rest one.reads) other.reads in
    one.says ∙ ap series_of entries ∙ sym other.says

pub list_refused : (text : List ℕ) (series : Series) (error : ListError) → (error ≡ Memory → ⊥) → IsList text series → IsRefused text error → ⊥
list_refused text series Heading some is refused = refused is.rest is.lines
list_refused text series (Line number) some is refused =
    let rest = same_rest text is.rest refused.rest is.lines refused.lines in
    reads_on IsLineOf line_unique Fit fit_begins refused.rest is.entries refused.count (subst (λ (l : List (List ℕ)). Reads IsLineOf Fit l is.entries) rest is.reads) refused.stops
list_refused text series Memory some is refused = some refl

pub list_told : (text : List ℕ) (series : Series) (error : ListError) → IsList text series → IsRefused text error → error ≡ Memory
list_told text series Heading is refused = absurd (list_refused text series Heading (λ same. cc) is refused)
list_told text series (Line number) is refused = absurd (list_refused text series (Line number) (λ same. cc) is refused)
list_told text series Memory is refused = refl

pub refused_once : (text : List ℕ) (error other : ListError) → (error ≡ Memory → ⊥) → (other ≡ Memory → ⊥) → IsRefused text error → IsRefused text other → error ≡ other
refused_once text Heading Heading some too a b = refl
refused_once text Heading (Line n) some too a b = absurd (a b.rest b.lines)
refused_once text (Line m) Heading some too a b = absurd (b a.rest a.lines)
refused_once text (Line m) (Line n) some too a b =
    let rest = same_rest text a.rest b.rest a.lines b.lines in
    let count = stops_once IsLineOf line_unique Fit fit_begins b.rest a.count b.count (subst (λ (l : List (List ℕ)). StopsBehind IsLineOf Fit l a.count) rest a.stops) b.stops in
    let same : m ≡ n = omega (arith, count, a.number_is, b.number_is) in
    ap Line same
refused_once text Heading Memory some too a b = absurd (too refl)
refused_once text (Line m) Memory some too a b = absurd (too refl)
refused_once text Memory other some too a b = absurd (some refl)

pub exactly : (text : List ℕ) (answer : Result Series ListError) (error : ListError) → IfOk answer (IsList text) → IfErr answer (IsRefused text) → (error ≡ Memory → ⊥) → IsRefused text error
    → IsErrOf answer error ⊎ IsErrOf answer Memory
exactly text (Ok series) error ok refused some is = absurd (list_refused text series error some ok is)
exactly text (Err Heading) error ok refused some is = inl (ap Err (refused_once text Heading error (λ same. cc) some refused is))
exactly text (Err (Line number)) error ok refused some is = inl (ap Err (refused_once text (Line number) error (λ same. cc) some refused is))
exactly text (Err Memory) error ok refused some is = inr refl
