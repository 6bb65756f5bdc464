-- `assay` meets its contract. Assumes nothing.
use Rattle.std.proofs.Common.{arith}
use Rattle.law_base.proofs.Tests.{first}
use Rattle.play_entries.specs.Mounted.{mounted_tape, tape_size, well_row}
use Rattle.play_entries.specs.Places.{block_in, has_in, length_in, remains}
use Rattle.play_deck.proofs.Assays as assays
use Rattle.play_deck.proofs.assay.Goals as goal

pub returns-then-is_overfull : goal.returns-then-is_overfull
returns-then-is_overfull c = assays.assayed_over (mounted_tape c.args.m.now) c.args.pos (cc)

pub returns-then-m-b : goal.returns-then-m-b
returns-then-m-b c =
    let w = mounted_tape c.args.m.now in
    assays.assayed_past w c.args.pos (assays.count_fits w (cc)) c.if-m-b.true _ c.assay_past.ensures

pub returns-then-not-row_ready : goal.returns-then-not-row_ready
returns-then-not-row_ready c =
    let w = mounted_tape c.args.m.now in
    assays.assayed_bad w c.args.pos (assays.count_fits w (cc)) (omega arith) (cc)

pub invariant_of-x : goal.invariant_of-x
invariant_of-x c =
    let w = mounted_tape c.args.m.now in
    let r = c.row-2.result in
    record { lent = assays.words_rows (tape_size w.bytes) w.tones r (assays.ready_words (tape_size w.bytes) w.tones r (cc)) }

pub has_left-has-requires : goal.has_left-has-requires
has_left-has-requires c =
    let w = mounted_tape c.args.m.now in
    assays.ready_words (tape_size w.bytes) w.tones _ (cc)

pub returns-then-is_source : goal.returns-then-is_source
unfolding well_row
returns-then-is_source c =
    let w = mounted_tape c.args.m.now in
    assays.assayed_source w c.args.pos (assays.count_fits w (cc)) (omega arith)
    (assays.ready_well (tape_size w.bytes) w.tones (block_in w c.args.pos.block) (cc) (cc)) (cc) _ (cc) _ c.assay_source.ensures

pub assay_document-requires : goal.assay_document-requires
assay_document-requires c =
    let w = mounted_tape c.args.m.now in
    let b = c.args.pos.block in
    let f = c.args.pos.phase in
    record {
      lending = assays.lending w b (assays.count_fits w (cc)) (omega arith)
          (assays.ready_words (tape_size w.bytes) w.tones (block_in w b) (cc));
      f_value = λ h. first (has_in w b f) (remains c.args.pos.left (length_in w b f)) (cc);
    }

pub returns : goal.returns
returns c =
    let w = mounted_tape c.args.m.now in
    let e = assays.ready_words (tape_size w.bytes) w.tones (block_in w c.args.pos.block) (cc) in
    assays.assayed_document w c.args.pos (assays.count_fits w (cc)) (omega arith) e _ (cc) _ c.assay_document.ensures
