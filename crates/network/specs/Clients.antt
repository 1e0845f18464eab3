-- What contracts see of a client: its machine, its line, and its history, which is that of its sender.
use Rattle.std.specs.Prelude.{ℕ}
use Rattle.request_line.specs.declared.history.History.{History}
use Rattle.request_line.specs.Line.{Line, sender_line, history}
use Rattle.network.specs.declared.post.Post.{Post}
use Rattle.network.specs.declared.client.Client.{Client}

abbrev pub client_machine : Client → ℕ
client_machine client = client.machine

abbrev pub client_line : Client → Line Post
client_line client = sender_line client.sender

abbrev pub client_history : Client → History Post
client_history client = history client.sender
