use Rattle.std.proofs.Common.{◌≡◌, sym, ap, ◌∙◌, arith}
use Rattle.std.proofs.lemmas.Result.{err_from_is_err_and, IfOk-from_err}
use Rattle.order.specs.declared.«record».RecordFault.TheVariants.{UnknownKind}
use Rattle.order.specs.Reads.{ground, record_of}
use Rattle.order.specs.Records.{post, kind, spare, number, partner_post, partner_number}
use Rattle.order.proofs.Forms.{form-length, form_kind, form_post, form_of_read, record_of_read, refused_by}
use Rattle.order.proofs.record.Record.read.Goals as goal

pub returns-then-bytes-ne-RECORD_LEN : goal.returns-then-bytes-ne-RECORD_LEN
returns-then-bytes-ne-RECORD_LEN c =
    record { ground = sym (form-length c.args.posts c.args.bytes.now c.if-bytes-ne-RECORD_LEN.true); value = tt }

pub returns-in_err-kind : goal.returns-in_err-kind
unfolding kind
returns-in_err-kind c =
    let p = err_from_is_err_and c.from_residual.result c.from_residual.ensures.1 in
    let h = c.in_err-kind.ensures in
    record {
      ground =
          refused_by c.from_residual.result p.0 UnknownKind _ p.1 (p.2 ∙ h.1)
          (sym (form_kind c.args.posts c.args.bytes.now c.if-bytes-ne-RECORD_LEN.false h.0));
      value = IfOk-from_err c.from_residual.result (λ t. t ≡ record_of c.args.bytes.now) c.from_residual.ensures.0;
    }

pub returns-then-event-posts : goal.returns-then-event-posts
unfolding kind post
returns-then-event-posts c =
    let k = c.in_ok-kind.ensures in
    let p = ap (λ e. e.post) c.event_at-event.ensures in
    record { ground = sym (form_post c.args.posts c.args.bytes.now c.if-bytes-ne-RECORD_LEN.false k.0 (omega arith)); value = tt }

pub returns-in_err-check_tail : goal.returns-in_err-check_tail
unfolding post kind spare number partner_post partner_number
returns-in_err-check_tail c =
    let p = err_from_is_err_and c.from_residual-in_err-check_tail.result c.from_residual-in_err-check_tail.ensures.1 in
    record {
      ground =
          refused_by c.from_residual-in_err-check_tail.result p.0 c.in_err-check_tail.field-0.0 _ p.1 p.2
          (form_of_read c.args.posts c.args.bytes.now c.in_ok-kind.kind c.event_at-event.result c.event_at-partner.result (ground c.in_err-check_tail.field-0.0)
          c.if-bytes-ne-RECORD_LEN.false c.in_ok-kind.ensures c.event_at-event.ensures c.if-event-posts.false
          c.event_at-partner.ensures c.in_err-check_tail.ensures);
      value = IfOk-from_err c.from_residual-in_err-check_tail.result (λ t. t ≡ record_of c.args.bytes.now) c.from_residual-in_err-check_tail.ensures.0;
    }

pub returns : goal.returns
unfolding post kind spare number partner_post partner_number
returns c =
    record {
      ground =
          form_of_read c.args.posts c.args.bytes.now c.in_ok-kind.kind c.event_at-event.result c.event_at-partner.result _
          c.if-bytes-ne-RECORD_LEN.false c.in_ok-kind.ensures c.event_at-event.ensures c.if-event-posts.false
          c.event_at-partner.ensures c.in_ok-check_tail.ensures;
      value =
          record_of_read c.args.bytes.now c.in_ok-kind.kind c.event_at-event.result c.event_at-partner.result
          c.in_ok-kind.ensures.1 c.event_at-event.ensures c.event_at-partner.ensures;
    }
