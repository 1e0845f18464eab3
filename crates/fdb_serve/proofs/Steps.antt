-- One request more that was read and answered, and how serving ends.
use Rattle.std.proofs.Common.{◌≡◌, ◌∙◌, ℕ, ◌+◌, ◌≤◌, List, [], ◌∷◌, ◌++◌, length, Option, Some, None, Result, Ok, Err, refl, sym, ap, subst, arith}
use Rattle.std.specs.Io.KnownBytes.{Appends, Consumes, IsAtEnd}
use Rattle.std.proofs.KnownBytes.{Appends-nil, Consumes-nil, Consumes-trans}
use Rattle.std.proofs.lemmas.List.{append-nil, length-append}
use Rattle.outside.specs.Streams.{AppendsFront}
use Rattle.model_database.specs.declared.Api.{Api}
use Rattle.fdb_calls.specs.declared.Request.{Request}
use Rattle.model_machine.specs.Worlds.{World, step}
use Rattle.fdb_wire.specs.Requests.{request_bytes}
use Rattle.fdb_wire.specs.Replies.{reply_bytes}
use Rattle.fdb_serve.specs.declared.halt.Halt.{Halt}
use Rattle.fdb_serve.specs.declared.halt.Halt.TheVariants as halt
use Rattle.fdb_serve.specs.declared.server.Server.{Server}
use Rattle.fdb_serve.specs.Serving.{framed, frames_of, served, answers_to, first_world, world_after}
use Rattle.fdb_serve.specs.Standing.{Stands}
use Rattle.fdb_serve.specs.Endings.{IsServed, IsNext, IsSent, IsAt, Finishes, EndsIn}
use Rattle.fdb_serve.proofs.Served.{answers_more, world_more, frames_more, served_more, written_more, written_front_more}

-- what a server makes of each request, where it stands for some world
abbrev pub Answered : (before after : Server) → Request → (frame : List ℕ) → Type 0
Answered before after request frame = (world : World) → Stands before world
    → (frame ≡ framed (reply_bytes (step world request).reply)) × Stands after (step world request).world

pub at_first : (api : Api) (window : Option ℕ) (server : Server) (left written : Option (List ℕ)) → Stands server (first_world api window)
    → server.core.applied ≡ 0 → IsAt api window server left left written written
unfolding answers_to world_after
at_first api window server left written stands none = record {
  requests = [];
  are_served = tt;
  consumed = Consumes-nil left;
  written = Appends-nil written;
  stands = stands;
  applied = none;
}

-- the frames of requests, and one more
consumed_more : (left middle after : Option (List ℕ)) (requests : List Request) (request : Request) → Consumes left middle (frames_of requests)
    → Consumes middle after (framed (request_bytes request)) → Consumes left after (frames_of (requests ++ request ∷ []))
consumed_more left middle after requests request h k =
    subst (Consumes left after) (sym (frames_more requests request)) (Consumes-trans left middle after (frames_of requests) (framed (request_bytes request)) h k)

pub at_more : (api : Api) (window : Option ℕ) (server server_after : Server) (left middle after start before written : Option (List ℕ))
    (request : Request) (frame : List ℕ) → IsAt api window server left middle start before → IsNext (Ok (Some request)) middle after
    → Answered server server_after request frame → server_after.core.applied ≡ server.core.applied + 1 → Appends before written frame
    → IsAt api window server_after left after start written
at_more api window server server_after left middle after start before written request frame at next answered applied wrote =
    let world = world_after (first_world api window) at.requests in
    let answer = answered world at.stands in
    let counted = at.applied in
    record {
      requests = at.requests ++ request ∷ [];
      are_served = served_more at.requests request at.are_served next.0;
      consumed = consumed_more left middle after at.requests request at.consumed next.1;
      written = written_more start before written (first_world api window) at.requests request frame at.written answer.0 wrote;
      stands = subst (Stands server_after) (sym (world_more (first_world api window) at.requests request)) answer.1;
      applied = omega (arith, length-append at.requests (request ∷ []));
    }

-- ---- ends

pub ends_all : (api : Api) (window : Option ℕ) (server : Server) (number : ℕ) (left middle after start written : Option (List ℕ))
    → IsAt api window server left middle start written → IsNext (Ok None) middle after → Finishes (Ok tt) api window number left after start written
ends_all api window server number left middle after start written at next = record {
  requests = at.requests;
  are_served = at.are_served;
  consumed = subst (Consumes left after) (append-nil (frames_of at.requests)) (Consumes-trans left middle after (frames_of at.requests) [] at.consumed next.0);
  end = next.1;
  written = at.written;
}

pub ends_unread : (why : Halt) (api : Api) (window : Option ℕ) (server : Server) (left middle after start written : Option (List ℕ))
    → IsAt api window server left middle start written → IsNext (Err why) middle after
    → Finishes (Err why) api window (server.core.applied + 1) left after start written
ends_unread halt.Read api window server left middle after start written at next = record {
  requests = at.requests;
  are_served = at.are_served;
  part = next.0;
  is_part = next.2;
  consumed = Consumes-trans left middle after (frames_of at.requests) next.0 at.consumed next.1;
  written = at.written;
}
ends_unread (halt.Bad flaw) api window server left middle after start written at next = record {
  requests = at.requests;
  are_served = at.are_served;
  is_number = ap (λ (n : ℕ). n + 1) at.applied;
  bytes = next.0;
  is_bad = next.2;
  consumed = Consumes-trans left middle after (frames_of at.requests) next.0 at.consumed next.1;
  written = at.written;
}
ends_unread halt.NoMemory api window server left middle after start written at next = record {
  requests = at.requests;
  are_served = at.are_served;
  bytes = next.0;
  consumed = Consumes-trans left middle after (frames_of at.requests) next.0 at.consumed next.1;
  written = at.written;
}
ends_unread halt.Write api window server left middle after start written at next = absurd next.2

pub ends_unanswered : (api : Api) (window : Option ℕ) (server : Server) (number : ℕ) (left middle after start written : Option (List ℕ))
    (request : Request) → IsAt api window server left middle start written → IsNext (Ok (Some request)) middle after
    → Finishes (Err halt.NoMemory) api window number left after start written
ends_unanswered api window server number left middle after start written request at next = record {
  requests = at.requests;
  are_served = at.are_served;
  bytes = framed (request_bytes request);
  consumed = Consumes-trans left middle after (frames_of at.requests) (framed (request_bytes request)) at.consumed next.1;
  written = at.written;
}

pub ends_unwritten : (api : Api) (window : Option ℕ) (server server_after : Server) (number : ℕ) (left middle after start before written : Option (List ℕ))
    (request : Request) (frame : List ℕ) → IsAt api window server left middle start before → IsNext (Ok (Some request)) middle after
    → Answered server server_after request frame → AppendsFront before written frame
    → Finishes (Err halt.Write) api window number left after start written
ends_unwritten api window server server_after number left middle after start before written request frame at next answered wrote =
    let world = world_after (first_world api window) at.requests in
    let answer = answered world at.stands in
    record {
      requests = at.requests ++ request ∷ [];
      are_served = served_more at.requests request at.are_served next.0;
      consumed = consumed_more left middle after at.requests request at.consumed next.1;
      written = written_front_more start before written (first_world api window) at.requests request frame at.written answer.0 wrote;
    }

pub ends_at_once : (api : Api) (window : Option ℕ) (number : ℕ) (left written : Option (List ℕ)) → Finishes (Err halt.NoMemory) api window number left left written written
unfolding answers_to
ends_at_once api window number left written = record {
  requests = [];
  are_served = tt;
  bytes = [];
  consumed = Consumes-nil left;
  written = Appends-nil written;
}

-- ---- what was read, and what was written

pub next_some : (read : Option Request) (request : Request) (left after : Option (List ℕ)) → read ≡ Some request → IsNext (Ok read) left after
    → IsNext (Ok (Some request)) left after
next_some read request left after is next = subst (λ (o : Option Request). IsNext (Ok o) left after) is next

pub next_none : (read : Option Request) (left after : Option (List ℕ)) → ((request : Request) → read ≡ Some request → ⊥) → IsNext (Ok read) left after
    → IsNext (Ok None) left after
next_none None left after none next = next
next_none (Some request) left after none next = absurd (none request refl)

pub ends_unsent : (why : Halt) (api : Api) (window : Option ℕ) (server server_after : Server) (number : ℕ)
    (left middle after start before written : Option (List ℕ)) (request : Request) (frame : List ℕ) → IsAt api window server left middle start before
    → IsNext (Ok (Some request)) middle after → Answered server server_after request frame → IsSent (Err why) frame before written
    → Finishes (Err why) api window number left after start written
ends_unsent halt.Write api window server server_after number left middle after start before written request frame at next answered sent =
    ends_unwritten api window server server_after number left middle after start before written request frame at next answered sent
ends_unsent halt.Read api window server server_after number left middle after start before written request frame at next answered sent = absurd sent
ends_unsent (halt.Bad flaw) api window server server_after number left middle after start before written request frame at next answered sent = absurd sent
ends_unsent halt.NoMemory api window server server_after number left middle after start before written request frame at next answered sent = absurd sent

pub sent_unread : (why : Halt) (frame : List ℕ) (before after : Option (List ℕ)) → IsSent (Err why) frame before after → why ≡ halt.Read → ⊥
sent_unread why frame before after sent e = let impossible : IsSent (Err halt.Read) frame before after = subst (λ (h : Halt). IsSent (Err h) frame before after) e sent in impossible
