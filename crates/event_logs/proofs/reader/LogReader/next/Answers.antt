-- An entry, the end of the log, and each fault at its byte, as the definition of a log has them.
use Rattle.std.proofs.Common.{◌≡◌, ◌<◌, ℕ, List, length, take, drop, Some, None, refl, sym, ap, subst, ◌∙◌, arith}
use Rattle.event_logs.specs.Entry.{entry_size, entry_begun, entry_reach}
use Rattle.event_logs.specs.Place.{LogPlace}
use Rattle.event_logs.proofs.Heads.{some_came, after_head, begun_is, none_begun}
use Rattle.event_logs.proofs.Readers.{front_len, head_cut, stopped, bytes_cut, cut_off, there}
use Rattle.event_logs.proofs.reader.LogReader.next.Goals as goal

pub returns-in_err-came-clause-gives : goal.returns-in_err-came-clause-gives
returns-in_err-came-clause-gives g c = λ rest told.
    let self = c.args.self.now in
    let lost = c.in_err-came.ensures.lost rest told in
    stopped c.from_residual.result c.in_err-came.field-0.0 self rest c.args.buf.now _ c.from_residual.ensures.1
    c.in_err-came.ensures.err (head_cut self rest lost.0 _ lost.1 lost.2)

pub returns-then-self-eq-MAX_ENTRIES-clause-gives : goal.returns-then-self-eq-MAX_ENTRIES-clause-gives
returns-then-self-eq-MAX_ENTRIES-clause-gives g c = λ rest told.
    let h = c.in_ok-came.ensures.told rest told in
    let head = c.read.new.buf in
    let came = c.in_ok-came.came in (
      some_came rest head came c.read.auto.buf c.in_ok-came.ensures.count h.0 c.if-came-eq0.false,
      h.1
          ∙ ap (λ (l : List ℕ). Some l) (after_head rest head came c.read.auto.buf c.in_ok-came.ensures.count h.0),
    )

pub returns-in_default-clause-gives : goal.returns-in_default-clause-gives
returns-in_default-clause-gives g c = λ rest told.
    let self = c.args.self.now in
    let h = c.in_ok-came.ensures.told rest told in
    let head = c.read.new.buf in
    let came = c.in_ok-came.came in
    let begins : entry_begun self.side rest
    ≡ None = sym (begun_is rest head came c.read.auto.buf c.in_ok-came.ensures.count h.0 self.side)
    ∙ ap (λ (p : LogPlace). entry_begun p.side (take came head)) (sym c.self.view_is) ∙ sym c.begun.ensures.is
    ∙ c.in_default.is in
    let reach : 3 ≡ entry_reach (entry_begun self.side rest) = ap entry_reach (sym begins) in (
      some_came rest head came c.read.auto.buf c.in_ok-came.ensures.count h.0 c.if-came-eq0.false,
      none_begun self.side rest begins,
      h.1 ∙ ap (λ (l : List ℕ). Some l) (after_head rest head came c.read.auto.buf c.in_ok-came.ensures.count h.0)
          ∙ ap (λ (n : ℕ). Some (drop n rest)) reach,
    )

pub returns-in_err-read-clause-gives : goal.returns-in_err-read-clause-gives
returns-in_err-read-clause-gives g c = λ rest told.
    let self = c.args.self.now in
    let h = c.in_ok-came.ensures.told rest told in
    let head = c.read.new.buf in
    let came = c.in_ok-came.came in
    let begins : entry_begun self.side rest ≡ Some c.in-Some.entry =
    sym (begun_is rest head came c.read.auto.buf c.in_ok-came.ensures.count h.0 self.side)
    ∙ ap (λ (p : LogPlace). entry_begun p.side (take came head)) (sym c.self.view_is) ∙ sym c.begun.ensures.is
    ∙ c.in-Some.is in
    let after : drop came rest ≡ drop 3 rest = after_head rest head came c.read.auto.buf c.in_ok-came.ensures.count h.0
    in
    let lost = c.in_err-read.ensures.lost (drop 3 rest) (h.1 ∙ ap (λ (l : List ℕ). Some l) after) in
    let size : length (take c.bytes_of-len.result c.args.buf.now) ≡ entry_size c.in-Some.entry =
    front_len c.args.buf.now
    (take c.bytes_of-len.result c.args.buf.now) c.bytes_of-len.result (entry_size c.in-Some.entry)
    refl c.bytes_of-len.ensures c.in-Some.ensures.within c.requires.room in
    let few : lost.0 < entry_size c.in-Some.entry = subst (λ (n : ℕ). lost.0 < n) size lost.1 in
    stopped c.from_residual-in_err-read.result c.in_err-read.field-0.0 self rest _
    _ c.from_residual-in_err-read.ensures.1 c.in_err-read.ensures.err
    (bytes_cut self rest c.in-Some.entry begins lost.0 _ few lost.2)

pub returns-then-branch-len-clause-gives : goal.returns-then-branch-len-clause-gives
returns-then-branch-len-clause-gives g c = λ rest told.
    let self = c.args.self.now in
    let h = c.in_ok-came.ensures.told rest told in
    let head = c.read.new.buf in
    let came = c.in_ok-came.came in
    let begins : entry_begun self.side rest ≡ Some c.in-Some.entry =
    sym (begun_is rest head came c.read.auto.buf c.in_ok-came.ensures.count h.0 self.side)
    ∙ ap (λ (p : LogPlace). entry_begun p.side (take came head)) (sym c.self.view_is) ∙ sym c.begun.ensures.is
    ∙ c.in-Some.is in
    let after : drop came rest ≡ drop 3 rest = after_head rest head came c.read.auto.buf c.in_ok-came.ensures.count h.0
    in
    let bytes = c.in_ok-read.ensures.told (drop 3 rest) (h.1 ∙ ap (λ (l : List ℕ). Some l) after) in
    let size : length c.read-2.new.buf ≡ entry_size c.in-Some.entry =
    front_len c.args.buf.now c.read-2.new.buf c.bytes_of-len.result (entry_size c.in-Some.entry) c.read-2.auto.buf
    c.bytes_of-len.ensures c.in-Some.ensures.within c.requires.room in
    let cut = cut_off self rest c.in-Some.entry begins c.read-2.new.buf c.in_ok-read.field-0 bytes.0 size _ bytes.1
    (omega (arith, c.if-branch-len.true, c.bytes_of-len.ensures)) in
    (some_came rest head came c.read.auto.buf c.in_ok-came.ensures.count h.0 c.if-came-eq0.false, cut.0, cut.1)

pub returns-clause-gives : goal.returns-clause-gives
returns-clause-gives g c = λ rest told.
    let self = c.args.self.now in
    let h = c.in_ok-came.ensures.told rest told in
    let head = c.read.new.buf in
    let came = c.in_ok-came.came in
    let begins : entry_begun self.side rest ≡ Some c.in-Some.entry =
    sym (begun_is rest head came c.read.auto.buf c.in_ok-came.ensures.count h.0 self.side)
    ∙ ap (λ (p : LogPlace). entry_begun p.side (take came head)) (sym c.self.view_is) ∙ sym c.begun.ensures.is
    ∙ c.in-Some.is in
    let after : drop came rest ≡ drop 3 rest = after_head rest head came c.read.auto.buf c.in_ok-came.ensures.count h.0
    in
    let bytes = c.in_ok-read.ensures.told (drop 3 rest) (h.1 ∙ ap (λ (l : List ℕ). Some l) after) in
    let size : length c.read-2.new.buf ≡ entry_size c.in-Some.entry =
    front_len c.args.buf.now c.read-2.new.buf c.bytes_of-len.result (entry_size c.in-Some.entry) c.read-2.auto.buf
    c.bytes_of-len.ensures c.in-Some.ensures.within c.requires.room in
    there self rest c.in-Some.entry begins c.read-2.new.buf c.in_ok-read.field-0 bytes.0 size _ bytes.1 _
    (omega (arith, c.in_ok-read.ensures.count, c.read-2.auto.buf, size)) (omega (
      arith,
      c.if-branch-len.false,
      c.bytes_of-len.ensures,
    ))
