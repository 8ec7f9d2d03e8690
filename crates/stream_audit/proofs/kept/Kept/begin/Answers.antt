-- The first packet of the next picture makes a row of its own.
use Rattle.std.proofs.Common.{◌≡◌, ◌∙◌, ℕ, ◌+◌, ◌-◌, Some, true, false, List, ◌∷◌, refl, sym, ap, subst, arith}
use Rattle.std.proofs.lemmas.Bool.{false_from_ne_true}
use Rattle.h263_types.specs.declared.format.Format.{Format}
use Rattle.h263_types.specs.Blocks.{IsHeadOf}
use Rattle.packet_collector.specs.Collected.{Collects, IsFreshIn}
use Rattle.packet_collector.specs.Taken.{Taken}
use Rattle.reference_selector.specs.Stands.{SelectorStands}
use Rattle.call_model.specs.CodedPictures.{is_among}
use Rattle.call_decoding.specs.Rules.{rules_of}
use Rattle.call_decoding.specs.Samples.{pictures}
use Rattle.call_encoding.specs.Messages.{read_message}
use Rattle.stream_audit.specs.declared.kept.Kept.{Kept}
use Rattle.stream_audit.specs.State.{AuditFits, AuditKeeps}
use Rattle.stream_audit.specs.Stream.{Picture, begun_by, known_of}
use Rattle.stream_audit.proofs.Adding.{begun, none_at_first}
use Rattle.stream_audit.proofs.Beginning.{fresh_next}
use Rattle.stream_audit.proofs.Known.{known_below, reading}
use Rattle.stream_audit.proofs.kept.Kept.begin.Goals as goal

pub add-requires-clause-row : goal.add-requires-clause-row
add-requires-clause-row c =
    let fits = c.requires.fits in
    let begins = (c.make_room.ensures.collects fits.taken fits.collects).begins in
    let row = c.make_room.ensures.row in
    let count : c.make_room.new.self.pictures ≡ c.args.self.now.pictures =
    ap (λ (x : Kept). x.pictures) c.make_room.ensures.same in
    record { low = omega (arith, begins, count); high = omega (arith, begins, count, row) }

pub add-requires-clause-fresh : goal.add-requires-clause-fresh
add-requires-clause-fresh c =
    let fits = c.requires.fits in
    let k = c.args.self.now in
    let k' = c.make_room.new.self in
    let count : k'.pictures ≡ k.pictures = ap (λ (x : Kept). x.pictures) c.make_room.ensures.same in
    subst (λ (n : ℕ). IsFreshIn k'.collector n c.args.piece.now) (sym count)
    (fresh_next c.what_is_taken.ensures c.searches.ensures.all_below k'.collector k.pictures fits.taken
    (c.make_room.ensures.collects fits.taken fits.collects) c.make_room.ensures.row
    (c.make_room.ensures.absent fits.taken fits.collects (λ first. (fits.before_first first).1)) c.args.piece.now
    (subst (λ (f : Format). IsHeadOf f c.args.piece.now.head) (sym (c.make_room.ensures.format
    ∙ fits.format)) c.requires.head))

pub returns-clause-fits : goal.returns-clause-fits
returns-clause-fits c =
    let k = c.args.self.now in
    let k' = c.make_room.new.self in
    let piece = c.args.piece.now in
    let fits = c.requires.fits in
    let few = c.requires.few in
    let count : k'.pictures ≡ k.pictures = ap (λ (x : Kept). x.pictures) c.make_room.ensures.same in
    let t : Taken = record { number = k.pictures; piece = piece } in
    let back : k.pictures ≡ k.pictures + 1 - 1 = omega arith in
    let collects : Collects c.add.new.self k.pictures (t ∷ fits.taken) =
    subst (λ (n : ℕ). Collects c.add.new.self k.pictures (record { number = n; piece = piece } ∷ fits.taken)) count
    (c.add.ensures.taken k.pictures fits.taken (c.make_room.ensures.collects fits.taken fits.collects)) in
    subst (λ (x : Kept). AuditFits (record x {
      pictures = x.pictures + 1;
      tr = Some piece.header.tr;
      collector = c.add.new.self;
      selector = c.coded.new.self;
    })) (sym c.make_room.ensures.same) (record {
      params = fits.params;
      format = c.add.ensures.same.format ∙ c.make_room.ensures.format ∙ fits.format;
      row = c.add.ensures.same.many ∙ c.make_room.ensures.row;
      few = omega (arith, few);
      taken = t ∷ fits.taken;
      collects = subst (λ (n : ℕ). Collects c.add.new.self n (t ∷ fits.taken)) back collects;
      before_first = λ first. absurd (omega (arith, first));
    })

pub returns-clause-keeps : goal.returns-clause-keeps
returns-clause-keeps c = λ items part keeps spells.
    let k = c.args.self.now in
    let k' = c.make_room.new.self in
    let piece = c.args.piece.now in
    let rules = rules_of k.params in
    let same : k' ≡ record k { collector = k'.collector } = c.make_room.ensures.same in
    let count : k'.pictures ≡ k.pictures = ap (λ (x : Kept). x.pictures) same in
    let known : List ℕ = known_of (read_message k.params.clock) rules items in
    let law = c.sender_stands.ensures.known (pictures k.params.format) (reading (pictures k.params.format)
    (read_message k.params.clock) rules) rules
    (c.are_rules.ensures k.params c.requires.fits.params) in
    let unknown : is_among known k'.pictures ≡ false = false_from_ne_true _ (λ (e : is_among known k'.pictures ≡ true).
    let below = known_below (pictures k.params.format) (read_message k.params.clock) rules law items k'.pictures e in
    let there = keeps.count in
    absurd (omega (arith, below, count, there))) in
    let before : SelectorStands rules k'.selector k'.pictures (λ m. 0) (is_among known) =
    subst (λ (x : Kept). SelectorStands rules x.selector x.pictures (λ m. 0) (is_among known)) (sym same) keeps.known in
    let coded : SelectorStands rules c.coded.new.self (k'.pictures + 1) (λ m. 0) (is_among known) =
    c.coded.ensures rules (λ (m : ℕ). 0) (is_among known) refl unknown before in
    let absent = c.make_room.ensures.absent keeps.taken keeps.collects (none_at_first k items keeps) in
    subst (λ (x : Kept). AuditKeeps (record x {
      pictures = x.pictures + 1;
      tr = Some piece.header.tr;
      collector = c.add.new.self;
      selector = c.coded.new.self;
    }) (Picture (begun_by part) ∷ items)) (sym same)
    (begun c.what_is_taken.ensures k items part piece keeps spells c.add.new.self c.coded.new.self absent
    (subst (λ (n : ℕ). Collects c.add.new.self k.pictures (record { number = n; piece = piece } ∷ keeps.taken)) count
    (c.add.ensures.taken k.pictures keeps.taken (c.make_room.ensures.collects keeps.taken keeps.collects)))
    (subst (λ (n : ℕ). SelectorStands rules c.coded.new.self (n + 1) (λ m. 0) (is_among known)) count coded))
