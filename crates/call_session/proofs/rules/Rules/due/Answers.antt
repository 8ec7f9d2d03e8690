use Rattle.call_session.proofs.rules.Rules.due.Goals as goal

pub returns : goal.returns
returns c = λ st s.
    c.due.ensures c.args.self.now.settings c.args.self.now.time st.follows c.requires.kept s.follows
