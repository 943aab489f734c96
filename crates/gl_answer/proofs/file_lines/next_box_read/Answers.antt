use Rattle.gl_answer.proofs.file_lines.next_box_read.Goals as goal

pub returns-clause-read : goal.returns-clause-read
returns-clause-read c = λ folder name most text said has.
    record { read = c.next_box.ensures.read text said has.read; counted = has.counted; fits = has.fits; so_far = has.so_far }
