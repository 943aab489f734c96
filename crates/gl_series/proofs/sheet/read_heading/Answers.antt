use Rattle.std.proofs.Common.{◌∙◌, sym, subst, inl, ℕ, List, [], ◌∷◌}
use Rattle.std.proofs.lemmas.Bool.{false≢true}
use Rattle.csv.specs.Records.{fields_of}
use Rattle.gl_series.specs.Code.ReadingRecords.{StandsBehind}
use Rattle.gl_series.proofs.Sheets.{one_further, unread_heading, wrong_heading}
use Rattle.gl_series.proofs.sheet.read_heading.Goals as goal
use Rattle.gl_series.proofs.sheet.read_heading.Goals.{then-not-branch-via-then-not-branch, then-not-branch-via-else-not-branch+then-not-is_heading}

pub returns-then-not-branch-clause-refused : goal.returns-then-not-branch-clause-refused
returns-then-not-branch-clause-refused c =
    let behind = c.requires in
    let reads = c.in_ok-read_byte_record.ensures.reads behind.plain behind.ready in
    let text = c.args.reader.now.rdr.now in
    let old = c.args.reader.now in
    let new = c.read_byte_record.new.self in
    let fields = fields_of c.read_byte_record.new.row in
    elim c.then-not-branch.branch [
      | then-not-branch-via-then-not-branch w ↦ unread_heading text old new fields behind (rw w.if-not-branch.true at reads)
      | then-not-branch-via-else-not-branch+then-not-is_heading w ↦ wrong_heading text old new fields behind (rw w.if-not-branch.false at reads)
          (λ same. false≢true (sym w.if-not-is_heading.true ∙ w.is_heading.ensures.1 same))
    ]

pub returns-clause-ok : goal.returns-clause-ok
returns-clause-ok c =
    let behind = c.requires in
    let reads = rw c.if-not-branch.false at (c.in_ok-read_byte_record.ensures.reads behind.plain behind.ready) in
    let text = c.args.reader.now.rdr.now in
    let new = c.read_byte_record.new.self in
    let fields = fields_of c.read_byte_record.new.row in
    let first = one_further text [] c.args.reader.now new fields behind reads (inl (c.in_ok-read_byte_record.ensures.ready behind.plain)) in
    subst (λ (read : List (List ℕ)). StandsBehind text (read ∷ []) new) (c.is_heading.ensures.0 c.if-not-is_heading.false) first
