-- Different requests and different replies have different spellings.
use Rattle.std.specs.Prelude.{◌≡◌}
use Rattle.fdb_calls.specs.declared.Request.{Request}
use Rattle.fdb_calls.specs.declared.Reply.{Reply}
use Rattle.fdb_wire.specs.Requests.{request_bytes, IsClientRequest}
use Rattle.fdb_wire.specs.Replies.{reply_bytes, IsReply}

-- two requests of a client with one spelling are one
abbrev pub AreRequestsApart : Type 0
AreRequestsApart = (a b : Request) → IsClientRequest a → IsClientRequest b → request_bytes a ≡ request_bytes b → a ≡ b

-- two replies with one spelling are one
abbrev pub AreRepliesApart : Type 0
AreRepliesApart = (a b : Reply) → IsReply a → IsReply b → reply_bytes a ≡ reply_bytes b → a ≡ b
