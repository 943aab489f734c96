use Rattle.gl_check.proofs.ClaimsSaid.{end_halted, end_read, end_said}
use Rattle.gl_check.proofs.claims_file.ClaimsFile.end.Goals as goal

pub returns-in_err-read_to_end-clause-ended : goal.returns-in_err-read_to_end-clause-ended
returns-in_err-read_to_end-clause-ended g c = λ file most said has.
    end_halted (g.D.Desk.told c.args.desk.now).folder file most said c.args.self.now c.in_err-read_to_end.field-0.0 c.from_residual.result c.from_residual.ensures.1 has
    c.in_err-read_to_end.ensures.halted

pub test_whole-requires : goal.test_whole-requires
test_whole-requires g c =
    let came = c.requires.came in
    end_read (g.D.Desk.told c.args.desk.now).folder came.0 came.1 came.2 c.args.self.now c.read_to_end.new.lines came.3 c.in_ok-read_to_end.ensures.all

pub returns-clause-ended : goal.returns-clause-ended
returns-clause-ended g c = λ file most said has.
    let folder = (g.D.Desk.told c.args.desk.now).folder in
    end_said folder file most said c.args.self.now c.read_to_end.new.lines c.test_whole.result has c.in_ok-read_to_end.ensures.all (c.test_whole.ensures.whole folder c.args.self.now.most)
