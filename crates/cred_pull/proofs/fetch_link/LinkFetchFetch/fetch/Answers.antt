use Rattle.cred_pull.proofs.fetch_link.LinkFetchFetch.fetch.Goals as goal

pub returns-then-is_err-clause-asks : goal.returns-then-is_err-clause-asks
returns-then-is_err-clause-asks g c = rw (← c.self.view_is) c.ask-asked.ensures.asks
