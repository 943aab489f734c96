use Rattle.std.proofs.Common.{◌≡◌, arith, w8, w16, to_z, pos}
use Rattle.std.proofs.lemmas.Int.{to_z_pos}
use Rattle.gl_igc.proofs.Calendar.{day_number_is}
use Rattle.gl_igc.proofs.date.day_number.Goals as goal

pub returns : goal.returns
returns c =
    let year : to_z w16 c.args.year ≡ pos c.args.year = to_z_pos w16 c.args.year (omega (arith, c.requires.year)) in
    let month : to_z w8 c.args.month ≡ pos c.args.month = to_z_pos w8 c.args.month (omega (arith, c.requires.month)) in
    let day : to_z w8 c.args.day ≡ pos c.args.day = to_z_pos w8 c.args.day (omega (arith, c.requires.day)) in
    let some = simp (year, month, day) at c.civil_day.ensures.some in
    let none = simp (year, month, day) at c.civil_day.ensures.none.1 in
    day_number_is c.args.year c.args.month c.args.day c.civil_day.result c.requires.year some none
