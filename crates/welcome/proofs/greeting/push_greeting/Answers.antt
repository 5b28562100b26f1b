use Rattle.welcome.proofs.greeting.push_greeting.Goals as goal
use Rattle.welcome.proofs.{PlaybackWhole.{and_added, line_added}, Words.{◌∷◌, [], codes}}
use Rattle.welcome.proofs.Words.{from_bouncer, on_ok_weaker}

pub returns : goal.returns
returns g c =
    let nick = c.own_nick-nick.result.now in
    on_ok_weaker c.push_reply.result (λ said. rw (← c.own_nick-nick.ensures)
    (and_added (line_added (from_bouncer (codes "001") (nick ∷ codes "Welcome to the bouncer" ∷ []))
    c.in_ok-push_said.ensures) (and_added (line_added (from_bouncer (codes "002") (nick
    ∷ codes "Your host is bnc, running version 1" ∷ [])) c.in_ok-push_said-2.ensures) (and_added
    (line_added (from_bouncer (codes "003") (nick ∷ codes "This server was created for you" ∷ []))
    c.in_ok-push_said-3.ensures) (line_added (from_bouncer (codes "004") (nick ∷ codes "bnc"
    ∷ codes "1" ∷ codes "i" ∷ codes "biklmnopstv" ∷ [])) said)))).is) c.push_reply.ensures
