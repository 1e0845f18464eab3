use Rattle.std.proofs.Common.{ap, ◌∙◌}
use Rattle.request_line.specs.History.{with_post}
use Rattle.network.specs.declared.post.Post.TheVariants.{Ask}
use Rattle.network.specs.Clients.{client_history}
use Rattle.network.proofs.client.Client.ask.Goals as goal

pub returns-clause-posted : goal.returns-clause-posted
returns-clause-posted g c =
    let setter = c.in_ok-setter.setter in let request = c.args.request in (
      setter,
      c.in_ok-setter.ensures.cell,
      c.post.ensures.history
          ∙ ap (λ history. with_post history (Ask c.halves.new.self.machine request setter)) c.halves.ensures.history
          ∙ ap (λ machine. with_post (client_history c.args.self.now) (Ask machine request setter)) c.halves.ensures.machine,
    )
