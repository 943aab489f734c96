-- What a stopped `score` has begun can be completed: it is a first part of a right answer.
use Rattle.std.proofs.Common.{◌≡◌, ◌∙◌, sym, ap, subst, refl, ℕ, zero, suc, ◌⊎◌, inl, inr, List, [], ◌∷◌, ◌++◌, take, Option, append_assoc, append-nil}
use Rattle.std.specs.List.{AllZip, flat_map}
use Rattle.std.proofs.lemmas.List.Concat.{flat_map-append}
use Rattle.std.proofs.lemmas.List.Elements.{All-append, All-nil}
use Rattle.gl_airspace.specs.declared.volume.Airspace.{Airspace}
use Rattle.gl_desk.specs.Desk.{FilesByName}
use Rattle.gl_goal.specs.Goal.{IsGoal}
use Rattle.gl_proof.specs.Claim.{Statement, claim_text}
use Rattle.gl_proof.specs.Line.{EndLine, HeadingLine, ended}
use Rattle.gl_proof.specs.Text.{proof_text}
use Rattle.gl_proof.specs.declared.version.Version.TheVariants.{Two}
use Rattle.gl_task.specs.declared.task.Entrant.{Entrant}
use Rattle.gl_task.specs.declared.task.Task.{Task}
use Rattle.gl_day.specs.Expected.{Expected, Proves}
use Rattle.gl_day.specs.Flight.{StewardRules}
use Rattle.gl_day.proofs.Entrants.{AreGoals, asked_flight, asked_goals, some_flight}
use Rattle.gl_day.proofs.Flights.{completed}
use Rattle.gl_day.proofs.Texts.{claim_texts-append, proof_text-parts}
use Rattle.gl_day_files.specs.declared.day_files.DayFiles.{DayFiles}
use Rattle.gl_answer.proofs.Listing.{seen_some}
use Rattle.gl_day_claims.specs.Asked.{AreAsked}
use Rattle.gl_day_claims.specs.Scored.{IsBegun, IsScored, Scored, statements_of_all, text_so_far}
use Rattle.gl_text.proofs.Lists.{AllZip-append}

-- what proves the claims of two parts is what proves those of the first, and what proves those of
-- the second
record AreParts (front back : List Expected) (statements : List Statement) : Type 0 where
  first : List Statement
  second : List Statement
  are : first ++ second ≡ statements
  of_front : AllZip Proves front first
  of_back : AllZip Proves back second

parts : (front back : List Expected) (statements : List Statement) → AllZip Proves (front ++ back) statements → AreParts front back statements
parts [] back statements each = record { first = []; second = statements; are = refl; of_front = tt; of_back = each }
parts (claim ∷ front) back [] each = absurd each
parts (claim ∷ front) back (s ∷ statements) each =
    let rest = parts front back statements each.1 in
    record {
      first = s ∷ rest.first;
      second = rest.second;
      are = ap (λ (l : List Statement). s ∷ l) rest.are;
      of_front = (each.0, rest.of_front);
      of_back = rest.of_back;
    }

nothing : (statements : List Statement) → AllZip Proves [] statements → statements ≡ []
nothing [] each = refl
nothing (s ∷ statements) each = absurd each

-- entrants have flights with these statements
record HaveFlights (folder : Option FilesByName) (day : DayFiles) (stewards : List StewardRules) (entrants : List Entrant) (statements : List Statement) : Type 0 where
  scored : List Scored
  each : AllZip (IsScored folder day stewards) entrants scored
  are : statements_of_all scored ≡ statements

flights_with : (folder : Option FilesByName) (day : DayFiles) (stewards : List StewardRules) (entrants : List Entrant) (expected : List Expected) (statements : List Statement)
    → AreAsked folder day.task day.airspace entrants expected → AllZip Proves expected statements → HaveFlights folder day stewards entrants statements
flights_with folder day stewards [] expected statements none each =
    record { scored = []; each = tt; are = sym (nothing statements (subst (λ (claims : List Expected). AllZip Proves claims statements) none each)) }
flights_with folder day stewards (entrant ∷ entrants) expected statements (first, rest, (seen, there, asked), others, are) each =
    let shares = parts first rest statements (subst (λ (claims : List Expected). AllZip Proves claims statements) are each) in
    let made = asked_flight day.task day.airspace stewards entrant seen first shares.first asked shares.of_front in
    let back = flights_with folder day stewards entrants rest shares.second others shares.of_back in
    let scored : Scored = record { statements = shares.first; flight = made.0 } in
    record {
      scored = scored ∷ back.scored;
      each = ((seen, there, made.1), back.each);
      are = ap (λ (l : List Statement). shares.first ++ l) back.are ∙ shares.are;
    }

-- entrants whose files weren't read have flights too
some_flights : (folder : Option FilesByName) (day : DayFiles) (stewards : List StewardRules) (entrants : List Entrant) → (scored : List Scored) × AllZip (IsScored folder day stewards) entrants scored
some_flights folder day stewards [] = ([], tt)
some_flights folder day stewards (entrant ∷ entrants) =
    let seen = seen_some folder entrant.file in
    let made = some_flight day.task day.airspace stewards entrant seen.0 in
    let rest = some_flights folder day stewards entrants in
    let scored : Scored = record { statements = made.0; flight = made.1 } in
    (scored ∷ rest.0, ((seen.0, seen.1, made.2), rest.1))

-- what is asked of entrants are claims of goals
all_goals : (folder : Option FilesByName) (task : Task) (air : Airspace) (entrants : List Entrant) (expected : List Expected) → AreAsked folder task air entrants expected → AreGoals expected
all_goals folder task air [] expected none = subst AreGoals (sym none) (All-nil (λ (claim : Expected). IsGoal claim.rule))
all_goals folder task air (entrant ∷ entrants) expected (first, rest, (seen, there, asked), others, are) =
    subst AreGoals (sym are) (All-append (λ (claim : Expected). IsGoal claim.rule) first rest (asked_goals task air entrant seen first asked) (all_goals folder task air entrants rest others))

-- a first part of a text is one of the text with more behind it
part_of_longer : (count : ℕ) (text more : List ℕ) → (n : ℕ) × (take count text ≡ take n (text ++ more))
part_of_longer zero text more = (0, refl)
part_of_longer (suc count) [] more = (0, refl)
part_of_longer (suc count) (byte ∷ text) more =
    let rest = part_of_longer count text more in
    (suc rest.0, ap (λ (l : List ℕ). byte ∷ l) rest.1)

-- the claims of a proof stand in front of what else it has
proof_text-front : (front back : List Statement) → proof_text Two (front ++ back) ≡ text_so_far front ++ (flat_map claim_text back ++ ended EndLine)
proof_text-front front back =
    proof_text-parts Two (front ++ back)
    ∙ ap (λ (l : List ℕ). ended (HeadingLine Two) ++ (l ++ ended EndLine)) (claim_texts-append front back)
    ∙ ap (λ (l : List ℕ). ended (HeadingLine Two) ++ l) (append_assoc (flat_map claim_text front) (flat_map claim_text back) (ended EndLine))
    ∙ sym (append_assoc (ended (HeadingLine Two)) (flat_map claim_text front) (flat_map claim_text back ++ ended EndLine))

-- flights of all entrants, of whose proof a text is a first part
pub record IsPartOfScored (folder : Option FilesByName) (day : DayFiles) (stewards : List StewardRules) (text : List ℕ) : Type 0 where
  pub scored : List Scored
  pub each : AllZip (IsScored folder day stewards) day.task.entrants scored
  pub count : ℕ
  pub is : text ≡ take count (proof_text Two (statements_of_all scored))

-- where the claims of the first entrants are begun
claims_begun : (folder : Option FilesByName) (day : DayFiles) (stewards : List StewardRules) (text : List ℕ) → (begun : IsBegun folder day text)
    → text ≡ take begun.count (text_so_far begun.statements) → IsPartOfScored folder day stewards text
claims_begun folder day stewards text begun is =
    let statements = begun.statements in
    let goals = all_goals folder day.task day.airspace begun.entrants begun.expected begun.asked in
    let more = completed begun.expected begun.partly.proved begun.partly.open_claims statements goals begun.partly.parts begun.partly.each in
    let front = flights_with folder day stewards begun.entrants begun.expected (statements ++ more.0) begun.asked more.1 in
    let back = some_flights folder day stewards begun.others in
    let scored = front.scored ++ back.0 in
    let each = AllZip-append (IsScored folder day stewards) begun.entrants begun.others front.scored back.0 front.each back.1 in
    let all : statements_of_all scored ≡ statements ++ (more.0 ++ statements_of_all back.0) =
    flat_map-append (λ (s : Scored). s.statements) front.scored back.0 ∙ ap (λ (l : List Statement). l ++ statements_of_all back.0) front.are
    ∙ append_assoc statements more.0 (statements_of_all back.0) in
    let part = part_of_longer begun.count (text_so_far statements) (flat_map claim_text (more.0 ++ statements_of_all back.0) ++ ended EndLine) in
    record {
      scored = scored;
      each = subst (λ (l : List Entrant). AllZip (IsScored folder day stewards) l scored) (sym begun.are) each;
      count = part.0;
      is = is ∙ part.1 ∙ ap (take part.0) (sym (ap (proof_text Two) all ∙ proof_text-front statements (more.0 ++ statements_of_all back.0)));
    }

-- where all claims are proved and the end is begun
end_begun : (folder : Option FilesByName) (day : DayFiles) (stewards : List StewardRules) (text : List ℕ) → (begun : IsBegun folder day text) → begun.others ≡ []
    → AllZip Proves begun.expected begun.statements → text ≡ take begun.count (proof_text Two begun.statements) → IsPartOfScored folder day stewards text
end_begun folder day stewards text begun none proved is =
    let front = flights_with folder day stewards begun.entrants begun.expected begun.statements begun.asked proved in
    let all : begun.entrants ≡ day.task.entrants = sym (begun.are ∙ ap (λ (l : List Entrant). begun.entrants ++ l) none ∙ append-nil begun.entrants) in
    record {
      scored = front.scored;
      each = subst (λ (l : List Entrant). AllZip (IsScored folder day stewards) l front.scored) all front.each;
      count = begun.count;
      is = is ∙ ap (λ (l : List Statement). take begun.count (proof_text Two l)) (sym front.are);
    }

-- each of the two
pub begun_either : (folder : Option FilesByName) (day : DayFiles) (stewards : List StewardRules) (text : List ℕ) (begun : IsBegun folder day text)
    → (text ≡ take begun.count (text_so_far begun.statements)) ⊎ ((begun.others ≡ []) × AllZip Proves begun.expected begun.statements × (text ≡ take begun.count (proof_text Two begun.statements)))
    → IsPartOfScored folder day stewards text
begun_either folder day stewards text begun (inl is) = claims_begun folder day stewards text begun is
begun_either folder day stewards text begun (inr (none, proved, is)) = end_begun folder day stewards text begun none proved is
