use Rattle.call_session.proofs.rules.Rules.shown.Goals as goal

pub returns-clause-run : goal.returns-clause-run
returns-clause-run c = λ st s.
    c.shown.ensures.run c.args.self.now.settings c.args.self.now.time st.follows c.requires.kept s.follows
