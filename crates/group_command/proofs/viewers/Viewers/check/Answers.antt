use Rattle.group_command.proofs.Checking.{last_so, later_found}
use Rattle.group_command.proofs.viewers.Viewers.check.Goals as goal

pub returns-in_err-check_if : goal.returns-in_err-check_if
returns-in_err-check_if c = λ p run views half cast w.
    let self = c.args.self.now in
    later_found p run self.first self.second self.third views w c.from_residual-in_err-check_if.result
    c.in_err-check_if.field-0.0 c.from_residual-in_err-check_if.ensures.1
    (λ h. c.in_ok-check_next.ensures p run _ half cast h) (λ front h. c.in_err-check_if.ensures p run front half cast h)

pub returns : goal.returns
returns c = λ p run views half cast w.
    let self = c.args.self.now in
    last_so p run self.first self.second self.third views w c.check_if-2.result
    (λ h. c.in_ok-check_next.ensures p run _ half cast h) (λ front h. c.in_ok-check_if.ensures p run front half cast h)
    (λ back h. c.check_if-2.ensures p run back half cast h)
