use Rattle.std.proofs.Common.{◌≡◌, ◌+◌, ℕ, Bool, List, [], ◌∷◌, ◌++◌, drop, length, refl, sym, ap, ◌∙◌, subst, arith}
use Rattle.std.proofs.lemmas.List.{append-nil, drop_all}
use Rattle.fdb_calls.specs.declared.Reply.{Reply}
use Rattle.future_cell.specs.declared.setter.Receipt.{Receipt}
use Rattle.future_cell.specs.declared.wake.Wake.{Wake}
use Rattle.request_line.specs.Line.{taken}
use Rattle.network.specs.declared.post.Post.{Post}
use Rattle.network.specs.Posts.{posts_of, overs_in}
use Rattle.network.specs.Serving.{Replies, Serves, posts_since}
use Rattle.network.proofs.Replied.{Replies-nothing, Serves-nothing}
use Rattle.network.proofs.Runs.{posts-more}
use Rattle.network.proofs.serving.serve.Goals as goal

pub loop-init : goal.loop-init
loop-init g c =
    let start = c.args.service.now in
    let took = taken c.args.receiver.now in
    let gone : drop (length took) took ≡ [] = drop_all (length took) took (omega arith) in
    let none : posts_since c.args.receiver.now c.args.receiver.now ≡ [] = ap posts_of gone in
    let nothing = c.new-server.ensures.nothing in
    record {
      can_next = tt;
      is_finite = tt;
      served = λ _. subst (λ (w : List Post × List ℕ × List (Receipt Reply Wake)). Serves g.S.Service.answers start start w.0 w.1 w.2)
          (λ i. (sym none i, sym nothing.0 i, sym nothing.1 i)) (Serves-nothing g.S.Service.answers g.S.Service.notes start);
      replies = subst (λ (w : List Post × Bool × List (Receipt Reply Wake)). Replies g.S.Service.answers g.S.Service.notes start start w.0 w.1 w.2)
          (λ i. (sym none i, sym nothing.2 i, sym nothing.1 i)) (Replies-nothing g.S.Service.answers g.S.Service.notes start);
      over = c.new-server.ensures.machines.1 ∙ sym (ap overs_in none);
      within = omega (arith, c.new-server.ensures.machines.0, c.new-server.ensures.machines.1);
      taken = sym (append-nil took) ∙ ap (λ l. took ++ l) (sym gone);
      closed = refl;
      line = refl;
    }

pub loop-preserved : goal.loop-preserved
loop-preserved g c =
    let mail = c.take-post.result in
    let more = posts-more (taken c.args.receiver.now) (taken c.loop.receiver) (taken c.take-post.new.self) mail c.loop.invariant.taken c.take-post.ensures.taken in
    record {
      can_next = tt;
      is_finite = tt;
      served = λ short. subst (λ posts. Serves g.S.Service.answers c.args.service.now c.take.new.service posts c.take.new.self.order c.take.new.self.receipts.items) (sym more.1)
          (c.take.ensures.served c.args.service.now (posts_since c.args.receiver.now c.loop.receiver) c.loop.invariant.served short);
      replies = subst (λ posts. Replies g.S.Service.answers g.S.Service.notes c.args.service.now c.take.new.service posts c.take.new.self.short
          c.take.new.self.receipts.items) (sym more.1)
          (c.take.ensures.replies c.args.service.now (posts_since c.args.receiver.now c.loop.receiver) c.loop.invariant.replies);
      over = c.take.ensures.over ∙ ap (λ n. n + overs_in (mail.1 ∷ [])) c.loop.invariant.over ∙ sym more.2;
      within = c.take.ensures.within;
      taken = more.0;
      closed = c.take-post.ensures.closed ∙ c.loop.invariant.closed;
      line = c.take-post.ensures.line ∙ c.loop.invariant.line;
    }
